use Rattle.std.proofs.Common.{sym, subst}
use Rattle.reached_terms.specs.Reached.{AreReachedTerms}
use Rattle.reached_terms.proofs.Closing.{closed}
use Rattle.reached_terms.proofs.reached.ReachedTerms.of.Goals as goal

pub returns : goal.returns
returns g c =
    let map = g.C.Chains.map c.args.code.now in
    let number = g.C.Numbered.number c.args.code.now in
    let seeds = c.args.seeds.now in
    subst (AreReachedTerms map number seeds) (sym c.into_terms.ensures) (closed map number seeds c.in_ok-closure_of.field-0 c.in_ok-closure_of.ensures c.requires)
