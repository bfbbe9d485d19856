-- A file that has no fault is an image.
use Rattle.std.proofs.Common.{◌≡◌, ◌∙◌, ℕ, List, Option, Some, None, refl, sym}
use Rattle.std.specs.Option.{option_or}
use Rattle.std.proofs.lemmas.List.Folds.{find-append}
use Rattle.elf_image.specs.Faults.{first_fault, first_image_fault, first_among, has_fault, image_faults, symbol_faults, IsImage}

none-first : {A : Type 0} (o p : Option A) → option_or o p ≡ None → o ≡ None
none-first None p none = refl
none-first (Some x) p none = none

pub image-of : (bytes : List ℕ) → first_fault bytes ≡ None → IsImage bytes
unfolding first_fault first_image_fault first_among
image-of bytes none =
    none-first _ _ (sym (find-append (has_fault bytes) image_faults symbol_faults) ∙ none)
