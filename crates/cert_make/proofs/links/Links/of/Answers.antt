use Rattle.std.proofs.Common.{ℕ, List, sym, subst}
use Rattle.cert_make.specs.Inner.Ends.{AreEnds}
use Rattle.cert_make.proofs.CanonicalLeads.{start_rises, start_stands}
use Rattle.cert_make.proofs.Linked.{terms_stand, terms_tell}
use Rattle.cert_make.proofs.links.Links.of.Goals as goal

pub runs_of-requires-clause-leads : goal.runs_of-requires-clause-leads
runs_of-requires-clause-leads g c κs within = record {
  rise = start_rises c.args.leaders.now c.args.lines.now c.requires.lines c.requires.rise;
  known = start_stands (g.C.Chains.map c.args.code.now) c.args.leaders.now c.args.lines.now c.requires.lines c.requires.stand;
}

pub exits_of-requires-clause-stand : goal.exits_of-requires-clause-stand
exits_of-requires-clause-stand g c κs within =
    rw c.as_slice.ensures.value (terms_stand (g.C.Chains.map c.args.code.now) c.args.leaders.now c.in_ok-ends.ends c.in_ok-ends.ensures)

pub exits_of-requires-clause-tell : goal.exits_of-requires-clause-tell
exits_of-requires-clause-tell g c κs within =
    rw c.as_slice.ensures.value (terms_tell (g.C.Chains.map c.args.code.now) c.args.leaders.now c.in_ok-ends.ends c.in_ok-ends.ensures c.args.returns.now.lines.now c.requires.tell)

pub returns : goal.returns
returns g c =
    let code = g.C.Chains.map c.args.code.now in
    record {
      runs = c.in_ok-runs.ensures;
      ends = subst (λ (xs : List ℕ). AreEnds code xs c.in_ok-ends.ends) (sym c.requires.lines) c.in_ok-ends.ensures;
      exits = rw (c.requires.lines, sym c.as_slice.ensures.value, sym c.in_ok-places.ensures.addresses) c.in_ok-exits.ensures;
    }
