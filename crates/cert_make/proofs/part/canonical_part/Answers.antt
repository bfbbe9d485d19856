use Rattle.cert_make.proofs.Parts.{all_end, all_known, listed_rise, listed_returns, part_is}
use Rattle.cert_make.proofs.part.canonical_part.Goals as goal

pub return_lines-requires-clause-terminators : goal.return_lines-requires-clause-terminators
return_lines-requires-clause-terminators g c κs within = all_end (g.C.Chains.map c.args.code.now) c.args.seeds.now c.args.returns.now c.requires.returns

pub lead_lines-requires-clause-rising : goal.lead_lines-requires-clause-rising
lead_lines-requires-clause-rising g c κs within =
    listed_rise (g.C.Chains.map c.args.code.now) c.args.seeds.now c.in_ok-returns.returns.items c.as_slice.result.now (c.in_ok-returns.ensures c.args.seeds.now c.requires.returns) c.as_slice.ensures.value

pub lead_lines-requires-clause-returns : goal.lead_lines-requires-clause-returns
lead_lines-requires-clause-returns g c κs within =
    listed_returns (g.C.Chains.map c.args.code.now) c.args.seeds.now c.in_ok-returns.returns.items c.as_slice.result.now (c.in_ok-returns.ensures c.args.seeds.now c.requires.returns) c.as_slice.ensures.value

pub lead_lines-requires-clause-known : goal.lead_lines-requires-clause-known
lead_lines-requires-clause-known g c κs within = all_known (g.C.Chains.map c.args.code.now) c.args.seeds.now c.args.leaders.now c.know_laws.ensures c.requires.seeds c.requires.leaders

pub returns : goal.returns
returns g c =
    part_is (g.C.Chains.map c.args.code.now) c.args.seeds.now c.in_ok-returns.returns.items c.from_vec.result c.in_ok-leads.leads.items c.from_vec-2.result
    (c.in_ok-returns.ensures c.args.seeds.now c.requires.returns) c.in_ok-leads.ensures c.from_vec.ensures c.from_vec-2.ensures
