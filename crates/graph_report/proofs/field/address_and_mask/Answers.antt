use Rattle.std.proofs.Common.{◌≡◌, ℕ, suc, ◌+◌, List, [], ◌∷◌, ◌++◌, length, sym, ap, ◌∙◌, refl, append_assoc}
use Rattle.std.specs.Prelude.{codes}
use Rattle.std.proofs.lemmas.List.{length-append}
use Rattle.graph_report.specs.Number.{address_digits, mask_digits}
use Rattle.graph_report.proofs.Digits.{end_written}
use Rattle.graph_report.proofs.field.address_and_mask.Goals as goal

pub returns : goal.returns
returns c =
    let address = c.copy_from_slice.new.self in
    let mask = c.copy_from_slice-2.new.self in
    let zeros = codes "00000000" in
    let address_is : address ≡ address_digits c.args.address = c.copy_from_slice.ensures.after ∙ c.address_digits.ensures in
    let mask_is : mask ≡ mask_digits c.args.mask = c.copy_from_slice-2.ensures.after ∙ c.half_digits.ensures in
    let front_long : length (address ++ 32 ∷ []) ≡ 17 = length-append address (32 ∷ []) ∙ ap (λ (n : ℕ). n + 1) c.copy_from_slice.ensures.len in
    end_written 18 8 (32 ∷ (address ++ 32 ∷ zeros)) (32 ∷ (address ++ 32 ∷ [])) zeros mask (ap (λ (xs : List ℕ). 32 ∷ xs) (sym (append_assoc address (32 ∷ []) zeros))) (ap suc front_long) refl
    ∙ rw (address_is, mask_is) refl
