use Rattle.std.proofs.Common.{get_or, ap, ◌∙◌}
use Rattle.reached_terms.specs.Reached.{Reach}
use Rattle.reached_terms.proofs.Returning.{mark-tells}
use Rattle.reached_terms.proofs.reached.ReachedTerms.returns.Goals as goal

pub returns : goal.returns
returns g c =
    let terms = c.requires.terms in
    let on = c.index.result.now in
    mark-tells (g.C.Chains.map c.args.code.now) (g.C.Numbered.number c.args.code.now) terms.0 c.args.self.now terms.1 c.args.a c.term.result c.number.result terms.2 c.term.ensures.term c.number.ensures
    on (c.index.ensures ∙ ap (λ (r : Reach). get_or r.returns c.number.result on) c.self.view_is)
