-- The memory of a file as zeros under its sections, of which the first in table order is written last.
use Rattle.std.proofs.Common.{◌≡◌, ℕ, zero, suc, ◌+◌, ◌-◌, ◌<◌, ◌≤◌, ◌||◌, Bool, true, false, cond, List, [], ◌∷◌, ◌++◌, map, length, get_or, drop, Option, Some, None, refl, sym, ap, ◌∙◌, subst, arith, inl, inr}
use mathlib.Core.Path.{fun_ext}
use Rattle.std.specs.List.{filter, list_any}
use Rattle.std.specs.Option.{option_or}
use Rattle.std.proofs.lemmas.Bool.{cases_Bool}
use Rattle.std.proofs.lemmas.Bool.Decides.{nat_tests}
use Rattle.std.proofs.lemmas.List.{map-append, drop_all, drop_more, length-map}
use Rattle.elf_image.specs.declared.section.Section.{Section}
use Rattle.elf_image.specs.Header.{section_count}
use Rattle.elf_image.specs.Sections.{section, sections, holds_bytes}
use Rattle.elf_image.proofs.Ranges.{length-sections, get_or-sections}
use Rattle.rv_machine.specs.declared.part.Part.{Part}
use Rattle.rv_machine.specs.declared.extent.Extent.{Extent}
use Rattle.rv_machine.specs.Memory.{Bytes}
use Rattle.rv_machine.specs.FileMemory.{is_loaded, section_byte, section_bytes, stack_bytes, loaded_sections, first_of, file_memory}
use Rattle.rv_machine.specs.Inner.Parts.{part_bytes}
use Rattle.rv_machine.specs.Inner.Extents.{extent_of, section_extent, stack_extent, is_inside, zero_bytes, over, AreWhole, CoverSame, CoverSection}
use Rattle.rv_machine.proofs.FileParts.{first_loaded, loaded-more}
use Rattle.rv_machine.proofs.FirstParts.{all_bytes}

-- ---- where the sections lie

abbrev pub file_extents : List ℕ → List Extent
file_extents file = map section_extent (loaded_sections file) ++ stack_extent ∷ []

pub extents-more : (file : List ℕ) (i : ℕ) (s : Section) (e : Extent) (before after : List Extent) → s ≡ section file i → i < section_count file → is_loaded s ≡ true → e ≡ section_extent s → before ≡ map section_extent (first_loaded file i) → after ≡ before ++ e ∷ [] → after ≡ map section_extent (first_loaded file (i + 1))
extents-more file i s e before after is below is_yes e_is known pushed =
    pushed ∙ ap (λ xs. xs ++ e ∷ []) known ∙ ap (λ (x : Extent). map section_extent (first_loaded file i) ++ x ∷ []) e_is
    ∙ sym (map-append section_extent (first_loaded file i) (s ∷ [])) ∙ ap (map section_extent) (sym (loaded-more file i s is below is_yes))

pub extents-whole : (file : List ℕ) (xs : List Extent) → xs ≡ file_extents file → AreWhole xs
extents-whole file xs is = subst AreWhole (sym is) (sections-whole (loaded_sections file))
  where
    sections-whole : (ss : List Section) → AreWhole (map section_extent ss ++ stack_extent ∷ [])
    sections-whole [] zero d below = omega arith
    sections-whole [] (suc k) d below = absurd (omega arith)
    sections-whole (s ∷ ss) zero d below = omega arith
    sections-whole (s ∷ ss) (suc k) d below = sections-whole ss k d (omega arith)

same-inside : (a : ℕ) (s : Section) → is_inside a (section_extent s) ≡ holds_bytes a 1 s
same-inside a s = grind (arith, nat_tests)

-- each address of a section is among them
covers-each : (a : ℕ) (ss : List Section) (k : ℕ) (s : Section) → k < length ss → get_or ss k s ≡ s → is_loaded s ≡ true → holds_bytes a 1 s ≡ true → list_any (is_inside a) (map section_extent (filter is_loaded ss) ++ stack_extent ∷ []) ≡ true
covers-each a [] k s below is loaded holds = absurd (omega arith)
covers-each a (t ∷ ss) zero s below is loaded holds =
    let yes_loaded : is_loaded t ≡ true = ap is_loaded is ∙ loaded in
    let inside : is_inside a (section_extent t) ≡ true = same-inside a t ∙ ap (holds_bytes a 1) is ∙ holds in
    rw (yes_loaded, inside) refl
covers-each a (t ∷ ss) (suc k) s below is loaded holds =
    let later = covers-each a ss k s (omega arith) is loaded holds in
    elim (cases_Bool (is_loaded t)) [
      | inl there ↦ rw (there, later) (or-true (is_inside a (section_extent t)))
      | inr skipped ↦ rw skipped later
    ]
  where
    or-true : (b : Bool) → (b || true) ≡ true
    or-true true = refl
    or-true false = refl

pub covers-section : (file : List ℕ) (united extents : List Extent) (parts : List Part) → extents ≡ file_extents file → CoverSame united extents → map extent_of parts ≡ united → (i : ℕ) → i < section_count file → is_loaded (section file i) ≡ true → CoverSection (map extent_of parts) (section file i)
covers-section file united extents parts is same shaped i below loaded a holds =
    ap (list_any (is_inside a)) shaped ∙ same a ∙ ap (list_any (is_inside a)) is
    ∙ covers-each a (sections file) i (section file i) (omega (arith, length-sections file)) (get_or-sections file i (section file i) below) loaded holds

-- ---- the sections from the last on

-- the sections from place i on that take up memory
abbrev pub last_loaded : List ℕ → ℕ → List Section
last_loaded file i = filter is_loaded (drop i (sections file))

-- they are written over the first memory
pub record AreWritten (file : List ℕ) (old new : List Part) (i : ℕ) : Type 0 where
  pub within : i ≤ section_count file
  pub extents : map extent_of new ≡ map extent_of old
  pub bytes : (a : ℕ) → all_bytes new a ≡ over (first_of (map (section_bytes file) (last_loaded file i))) (all_bytes old) a

pub written-none : (file : List ℕ) (parts : List Part) (n : ℕ) → n ≡ section_count file → AreWritten file parts parts n
written-none file parts n is = record {
  within = omega arith;
  extents = refl;
  bytes = λ a.
      let none : drop n (sections file) ≡ [] = drop_all n (sections file) (omega (arith, length-sections file)) in
      sym (ap (λ ss. over (first_of (map (section_bytes file) (filter is_loaded ss))) (all_bytes parts) a) none);
}

one-less : (file : List ℕ) (i : ℕ) → i < section_count file → drop i (sections file) ≡ section file i ∷ drop (i + 1) (sections file)
one-less file i below =
    drop_more (sections file) i (section file i) (omega (arith, length-sections file))
    ∙ ap (λ s. s ∷ drop (i + 1) (sections file)) (get_or-sections file i (section file i) below)

or-assoc : (a b c : Option ℕ) → option_or a (option_or b c) ≡ option_or (option_or a b) c
or-assoc None b c = refl
or-assoc (Some v) b c = refl

pub written-more : (file : List ℕ) (old before after : List Part) (left : ℕ) → 0 < left → AreWritten file old before left → is_loaded (section file (left - 1)) ≡ true → map extent_of after ≡ map extent_of before → ((a : ℕ) → all_bytes after a ≡ over (section_bytes file (section file (left - 1))) (all_bytes before) a) → AreWritten file old after (left - 1)
written-more file old before after left some known loaded extents bytes =
    let i = left - 1 in
    let back : i + 1 ≡ left = omega arith in
    let more : last_loaded file i ≡ section file i ∷ last_loaded file left = ap (filter is_loaded) (one-less file i (omega (arith, known.within))) ∙ ap (λ b. cond b (section file i ∷ last_loaded file (i + 1)) (last_loaded file (i + 1))) loaded ∙ ap (λ n. section file i ∷ last_loaded file n) back in
    record {
      within = omega (arith, known.within);
      extents = extents ∙ known.extents;
      bytes = λ a.
          bytes a ∙ ap (option_or (section_bytes file (section file i) a)) (known.bytes a)
          ∙ or-assoc (section_bytes file (section file i) a) (first_of (map (section_bytes file) (last_loaded file left)) a) (all_bytes old a)
          ∙ sym (ap (λ ss. over (first_of (map (section_bytes file) ss)) (all_bytes old) a) more);
    }

pub written-skip : (file : List ℕ) (old before : List Part) (left : ℕ) → 0 < left → AreWritten file old before left → is_loaded (section file (left - 1)) ≡ false → AreWritten file old before (left - 1)
written-skip file old before left some known skipped =
    let i = left - 1 in
    let back : i + 1 ≡ left = omega arith in
    let same : last_loaded file i ≡ last_loaded file left = ap (filter is_loaded) (one-less file i (omega (arith, known.within))) ∙ ap (λ b. cond b (section file i ∷ last_loaded file (i + 1)) (last_loaded file (i + 1))) skipped ∙ ap (last_loaded file) back in
    record {
      within = omega (arith, known.within);
      extents = known.extents;
      bytes = λ a. known.bytes a ∙ sym (ap (λ ss. over (first_of (map (section_bytes file) ss)) (all_bytes old) a) same);
    }

-- ---- the whole

-- zeros wherever one of some ranges lies
zeros-all : (a : ℕ) (xs : List Extent) → first_of (map zero_bytes xs) a ≡ cond {A = Option ℕ} (list_any (is_inside a) xs) (Some 0) None
zeros-all a [] = refl
zeros-all a (x ∷ xs) = by (is_inside a x) (list_any (is_inside a) xs) (first_of (map zero_bytes xs) a) (zeros-all a xs)
  where
    by : (b c : Bool) (o : Option ℕ) → o ≡ cond {A = Option ℕ} c (Some 0) None → option_or (cond {A = Option ℕ} b (Some 0) None) o ≡ cond {A = Option ℕ} (b || c) (Some 0) None
    by true c o e = refl
    by false c o e = e

-- sections over zeros wherever one of them or the stack lies
over-zeros : (file : List ℕ) (a : ℕ) (ss : List Section) → option_or (first_of (map (section_bytes file) ss) a) (cond {A = Option ℕ} (list_any (is_inside a) (map section_extent ss ++ stack_extent ∷ [])) (Some 0) None) ≡ first_of (map (section_bytes file) ss ++ stack_bytes ∷ []) a
over-zeros file a [] = base (is_inside a stack_extent)
  where
    base : (b : Bool) → cond {A = Option ℕ} (b || false) (Some 0) None ≡ option_or (cond {A = Option ℕ} b (Some 0) None) None
    base true = refl
    base false = refl
over-zeros file a (s ∷ ss) = by (holds_bytes a 1 s) (is_inside a (section_extent s)) (same-inside a s) (section_byte file s a) (list_any (is_inside a) (map section_extent ss ++ stack_extent ∷ [])) (first_of (map (section_bytes file) ss) a) (first_of (map (section_bytes file) ss ++ stack_bytes ∷ []) a) (over-zeros file a ss)
  where
    by : (b d : Bool) → d ≡ b → (v : ℕ) (c : Bool) (o p : Option ℕ) → option_or o (cond {A = Option ℕ} c (Some 0) None) ≡ p → option_or (option_or (cond {A = Option ℕ} b (Some v) None) o) (cond {A = Option ℕ} (d || c) (Some 0) None) ≡ option_or (cond {A = Option ℕ} b (Some v) None) p
    by true d is v c o p e = refl
    by false true is v c o p e = cc
    by false false is v c o p e = e

pub layered : (file : List ℕ) (united extents : List Extent) (zeros parts : List Part) → extents ≡ file_extents file → CoverSame united extents → map part_bytes zeros ≡ map zero_bytes united → ((a : ℕ) → all_bytes parts a ≡ over (first_of (map (section_bytes file) (loaded_sections file))) (all_bytes zeros) a) → all_bytes parts ≡ file_memory file
unfolding file_memory
layered file united extents zeros parts is same zero_is written = fun_ext (λ a.
    let below : all_bytes zeros a ≡ cond {A = Option ℕ} (list_any (is_inside a) (file_extents file)) (Some 0) None = ap (λ (ms : List Bytes). first_of ms a) zero_is ∙ zeros-all a united ∙ ap (λ b. cond {A = Option ℕ} b (Some 0) None) (same a ∙ ap (list_any (is_inside a)) is) in
    written a ∙ ap (option_or (first_of (map (section_bytes file) (loaded_sections file)) a)) below
    ∙ over-zeros file a (loaded_sections file))

-- as long as before, if the ranges are the same
pub same-many : (old new : List Part) → map extent_of new ≡ map extent_of old → length new ≡ length old
same-many old new same = sym (length-map new extent_of) ∙ ap length same ∙ length-map old extent_of
