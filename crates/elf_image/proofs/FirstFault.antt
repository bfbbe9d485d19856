-- The first fault, pass by pass.
use Rattle.std.proofs.Common.{◌≡◌, ℕ, zero, suc, ◌<◌, ◌≤◌, Bool, true, false, cond, List, [], ◌∷◌, ◌++◌, length, get_or, Option, Some, None, refl, ap, ◌∙◌, arith, lit<}
use Rattle.std.specs.List.{find}
use Rattle.std.specs.Option.{option_or}
use Rattle.std.proofs.lemmas.Bool.{ltb-false}
use Rattle.std.proofs.lemmas.List.Folds.{find-append}
use Rattle.elf_image.specs.declared.fault.Fault.{Fault}
use Rattle.elf_image.specs.declared.fault.Fault.TheVariants.{Short, SectionTable, SectionRange}
use Rattle.elf_image.specs.FaultTests.{is_short}
use Rattle.elf_image.specs.Faults.{has_fault, first_among, image_faults, symbol_faults, first_image_fault, first_symbol_fault, first_fault}
use Rattle.elf_image.specs.Inner.Passes.{ident_faults, header_faults, table_faults, section_faults, code_faults}

-- the faults of the header and the two tables
abbrev pub file_faults : List Fault
file_faults = ident_faults ++ header_faults ++ table_faults

passes : image_faults ≡ file_faults ++ section_faults ++ code_faults
passes = refl

-- no fault of a list holds where none is found
found-none : (x : Fault) (o : Option Fault) (b : Bool) → cond b (Some x) o ≡ None → (b ≡ false) × (o ≡ None)
found-none x o true h = cc
found-none x o false h = (refl, h)

pub none-at : (p : Fault → Bool) (fs : List Fault) (k : ℕ) (d : Fault) → find p fs ≡ None → k < length fs → p (get_or fs k d) ≡ false
none-at p [] k d none within = absurd (omega arith)
none-at p (f ∷ fs) zero d none within = (found-none f (find p fs) (p f) none).0
none-at p (f ∷ fs) (suc k) d none within = none-at p fs k d (found-none f (find p fs) (p f) none).1 (omega arith)

-- what is found in the first list, and else in the second
after_some : (fs gs : List Fault) (bytes : List ℕ) (f : Fault) → first_among fs bytes ≡ Some f → first_among (fs ++ gs) bytes ≡ Some f
unfolding first_among
after_some fs gs bytes f found = find-append (has_fault bytes) fs gs ∙ ap (λ o. option_or o (first_among gs bytes)) found

after_none : (fs gs : List Fault) (bytes : List ℕ) → first_among fs bytes ≡ None → first_among (fs ++ gs) bytes ≡ first_among gs bytes
unfolding first_among
after_none fs gs bytes none = find-append (has_fault bytes) fs gs ∙ ap (λ o. option_or o (first_among gs bytes)) none

module _ (bytes : List ℕ) where
  pub first_of_file : (f : Fault) → first_among file_faults bytes ≡ Some f → first_image_fault bytes ≡ Some f
  unfolding first_image_fault
  first_of_file f found = after_some (file_faults ++ section_faults) code_faults bytes f (after_some file_faults section_faults bytes f found)

  pub first_of_section : (f : Fault) → first_among file_faults bytes ≡ None → first_among section_faults bytes ≡ Some f → first_image_fault bytes ≡ Some f
  unfolding first_image_fault
  first_of_section f none found =
      after_some (file_faults ++ section_faults) code_faults bytes f (after_none file_faults section_faults bytes none ∙ found)

  -- the answer of the last pass is that of all
  pub first_of_code : first_among file_faults bytes ≡ None → first_among section_faults bytes ≡ None → first_image_fault bytes ≡ first_among code_faults bytes
  unfolding first_image_fault
  first_of_code no_file no_section =
      after_none (file_faults ++ section_faults) code_faults bytes (after_none file_faults section_faults bytes no_file ∙ no_section)

  -- among all twenty
  pub first-from_image : (f : Fault) → first_image_fault bytes ≡ Some f → first_fault bytes ≡ Some f
  unfolding first_image_fault first_fault
  first-from_image f found = after_some image_faults symbol_faults bytes f found

  pub first-from_symbols : first_image_fault bytes ≡ None → first_fault bytes ≡ first_symbol_fault bytes
  unfolding first_image_fault first_symbol_fault first_fault
  first-from_symbols none = after_none image_faults symbol_faults bytes none

  -- what an accepted pass shows
  short : first_among file_faults bytes ≡ None → has_fault bytes Short ≡ false
  unfolding first_among
  short none = none-at (has_fault bytes) file_faults 1 Short none (lit< tt)

  pub table_fits : first_among file_faults bytes ≡ None → has_fault bytes SectionTable ≡ false
  unfolding first_among
  table_fits none = none-at (has_fault bytes) file_faults 12 Short none (lit< tt)

  pub range_fits : first_among section_faults bytes ≡ None → has_fault bytes SectionRange ≡ false
  unfolding first_among
  range_fits none = none-at (has_fault bytes) section_faults 0 Short none (lit< tt)

  pub long_enough : first_among file_faults bytes ≡ None → 64 ≤ length bytes
  long_enough none = ltb-false (length bytes) 64 (unfold has_fault is_short in short none)
