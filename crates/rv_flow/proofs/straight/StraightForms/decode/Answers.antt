use Rattle.std.proofs.Common.{◌≡◌, sym, ap, subst, ◌∙◌}
use Rattle.rv_flow.specs.declared.straight.ShortForm.TheVariants.{GoesOn, Stops}
use Rattle.rv_flow.specs.Inner.{AreTold, short_goes_on}
use Rattle.rv_flow.proofs.Kept.{kept_told}
use Rattle.rv_flow.proofs.straight.StraightForms.decode.Goals as goal
use Rattle.rv_flow.proofs.straight.StraightForms.decode.Goals.{in-Some, then-goes_on, else-goes_on, in_default}

pub invariant_of-self : goal.invariant_of-self
invariant_of-self c =
    let e = c.self.inside.extensions in
    let items = c.self.inside.shorts.items in
    elim c.match-get_mut.branch [
      | in-Some w ↦ subst (λ inside. AreTold inside.extensions inside.shorts.items) (sym w.self-inside-is)
          (elim w.if-goes_on.branch [
            | then-goes_on v ↦ kept_told e items c.from.result w.if-goes_on.place c.self.invariant
                (λ is. ap (short_goes_on e) c.from.ensures ∙ sym v.if-goes_on.ensures)
                (λ is. let other : GoesOn ≡ Stops = sym v.place-is ∙ is in absurd cc)
            | else-goes_on v ↦ kept_told e items c.from.result w.if-goes_on.place c.self.invariant
                (λ is. let other : Stops ≡ GoesOn = sym v.place-is ∙ is in absurd cc)
                (λ is. ap (short_goes_on e) c.from.ensures ∙ sym v.if-goes_on.ensures)
          ])
      | in_default w ↦ subst (λ inside. AreTold inside.extensions inside.shorts.items) (sym w.self-inside-is) c.self.invariant
    ]
