use Rattle.std.proofs.Common.{◌≡◌, ℕ, suc, ◌+◌, List, [], ◌∷◌, ◌++◌, length, sym, ap, ◌∙◌, refl, append_assoc}
use Rattle.std.specs.Prelude.{codes}
use Rattle.std.proofs.lemmas.List.{length-append}
use Rattle.graph_report.specs.Number.{address_digits}
use Rattle.graph_report.proofs.Digits.{end_written}
use Rattle.graph_report.proofs.field.two_addresses.Goals as goal

pub returns : goal.returns
returns c =
    let one = c.copy_from_slice.new.self in
    let other = c.copy_from_slice-2.new.self in
    let zeros = codes "0000000000000000" in
    let one_is : one ≡ address_digits c.args.one = c.copy_from_slice.ensures.after ∙ c.address_digits.ensures in
    let other_is : other ≡ address_digits c.args.other = c.copy_from_slice-2.ensures.after ∙ c.address_digits-2.ensures in
    let front_long : length (one ++ 32 ∷ []) ≡ 17 = length-append one (32 ∷ []) ∙ ap (λ (n : ℕ). n + 1) c.copy_from_slice.ensures.len in
    end_written 18 16 (32 ∷ (one ++ 32 ∷ zeros)) (32 ∷ (one ++ 32 ∷ [])) zeros other (ap (λ (xs : List ℕ). 32 ∷ xs) (sym (append_assoc one (32 ∷ []) zeros))) (ap suc front_long) refl
    ∙ rw (one_is, other_is) refl
