use Rattle.std.proofs.Common.{ap, ◌∙◌}
use Rattle.std.proofs.lemmas.Result.{IfOk-weaker}
use Rattle.reached_terms.specs.Reached.{Reach}
use Rattle.reached_terms.proofs.Filtered.{returning_listed, returning_rises}
use Rattle.reached_terms.proofs.reached.ReachedTerms.returning.Goals as goal

pub returns-clause-rising : goal.returns-clause-rising
returns-clause-rising g c =
    IfOk-weaker c.marked_among.result _ _
    (λ v is. returning_rises (g.C.Numbered.number c.args.code.now) c.deref-2.result.now c.in_ok-reached.reached.items c.deref-3.result.now v.items c.deref-3.ensures.value c.in_ok-reached.ensures.rising is)
    c.marked_among.ensures

pub returns-clause-exact : goal.returns-clause-exact
returns-clause-exact g c =
    IfOk-weaker c.marked_among.result _ _
    (λ v is seeds are. returning_listed (g.C.Chains.map c.args.code.now) (g.C.Numbered.number c.args.code.now) seeds c.args.self.now are c.deref-2.result.now c.deref.result.now c.in_ok-reached.reached.items c.deref-3.result.now v.items
    (c.deref-2.ensures.value ∙ ap (λ (r : Reach). r.returns) c.self.view_is) (c.deref.ensures.value ∙ ap (λ (r : Reach). r.reached) c.self.view_is) c.deref-3.ensures.value c.in_ok-reached.ensures.exact is)
    c.marked_among.ensures
