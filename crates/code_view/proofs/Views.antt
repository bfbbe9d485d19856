-- The program that a file's code is, by the file and the cuts that are kept of it.
use Rattle.std.proofs.Common.{◌≡◌, ℕ, true, List, IsSome, sym, ap, ◌∙◌, subst}
use Rattle.std.specs.FinMap as map
use Rattle.std.specs.Ordering.{nat_cmp}
use Rattle.std.proofs.lemmas.Option.{none-some}
use Rattle.elf_image.specs.Code.{is_code}
use Rattle.elf_image.specs.Faults.{IsImage}
use Rattle.cfg_model.specs.Program.Instructions.{IsLawful}
use Rattle.code_view.specs.Cuts.{Counts, cut_of, CutsFit}
use Rattle.code_view.specs.FileCode.{FileCode, program_of}
use Rattle.code_view.proofs.Lawful.{program-lawful, code_of}

-- It is lawful where the cuts fit.
pub lawful-view : (bytes : List ℕ) (cuts : Counts) → IsImage bytes → CutsFit bytes (cut_of cuts) → (code : FileCode) → record { bytes = bytes; cuts = cuts } ≡ code → IsLawful (program_of code)
lawful-view bytes cuts accepted fit code is = subst (λ c. IsLawful (program_of c)) is (program-lawful bytes accepted (cut_of cuts) fit)

module _ (bytes : List ℕ) (cuts : Counts) (code : FileCode) (is : record { bytes = bytes; cuts = cuts } ≡ code) (a : ℕ) where
  same-code : is_code code.bytes a ≡ true → is_code bytes a ≡ true
  same-code there = subst (λ b. is_code b a ≡ true) (sym (ap (λ (f : FileCode). f.bytes) is)) there

  -- An instruction stands at a code address of the file,
  pub code-view : IsSome (program_of code a) → is_code bytes a ≡ true
  code-view there = same-code (code_of code.bytes (cut_of code.cuts) a there)

  -- which is one of the file that the index is of.
  pub index-view : (index : List ℕ) → index ≡ bytes → IsSome (program_of code a) → is_code index a ≡ true
  index-view index same there = subst (λ b. is_code b a ≡ true) (sym same) (code-view there)

-- Where nothing is cut, the cuts fit any file.
pub none-fits : (bytes : List ℕ) (cuts : Counts) → cuts ≡ map.empty → CutsFit bytes (cut_of cuts)
none-fits bytes cuts none j count is = absurd (none-some count (sym (map.get-empty nat_cmp j) ∙ ap (λ c. map.get c j) (sym none) ∙ is))
