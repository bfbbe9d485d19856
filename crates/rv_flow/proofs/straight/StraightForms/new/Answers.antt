use Rattle.std.proofs.Common.{◌≡◌, ℕ, ◌≤◌, length, get_or, replicate, sym, subst, ap, ◌∙◌, arith, inl, inr}
use Rattle.std.proofs.lemmas.Bool.{cases_order}
use Rattle.std.proofs.lemmas.List.{get_or-replicate, get_or_past, length-replicate}
use Rattle.elf_image.specs.declared.extensions.Extensions.{Extensions}
use Rattle.rv_flow.specs.declared.straight.ShortForm.TheVariants.{Unasked}
use Rattle.rv_flow.specs.Inner.{AreTold}
use Rattle.rv_flow.proofs.straight.StraightForms.new.Goals as goal
use Rattle.rv_flow.proofs.straight.StraightForms.new.Goals.{in-Ok, in-Err}

-- at a place of a list that keeps nothing stands nothing
nothing_at : (n half : ℕ) → get_or (replicate n Unasked) half Unasked ≡ Unasked
nothing_at n half =
    let size = length-replicate n Unasked in
    let past : (length (replicate n Unasked) ≤ half) → get_or (replicate n Unasked) half Unasked ≡ Unasked = get_or_past (replicate n Unasked) half Unasked in
    elim (cases_order half n) [
      | inl same ↦ past (omega arith)
      | inr other ↦ elim other [
        | inl less ↦ get_or-replicate n half Unasked Unasked less
        | inr more ↦ past (omega arith)
      ]
    ]

nothing_told : (e : Extensions) (n : ℕ) → AreTold e (replicate n Unasked)
nothing_told e n = record {
  on = λ half is. let here = nothing_at n half in absurd cc;
  stops = λ half is. let here = nothing_at n half in absurd cc;
}

pub invariant_of-result : goal.invariant_of-result
invariant_of-result c =
    let e = c.args.extensions in
    elim c.match-vec.branch [
      | in-Ok w ↦ subst (AreTold e) (sym (ap (λ made. made.items) w.shorts-is ∙ w.in-Ok.ensures.items_if_clones_equal (λ y same. same))) (nothing_told e 65536)
      | in-Err w ↦ subst (AreTold e) (sym (ap (λ made. made.items) w.shorts-is ∙ w.new-shorts.ensures.items)) (nothing_told e 0)
    ]
