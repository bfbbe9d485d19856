use Rattle.std.proofs.Common.{◌^◌, ◌-◌, get_or, sym, subst}
use Rattle.std.proofs.lemmas.List.Elements.{Contains-get_or}
use Rattle.cert_ends.proofs.Placed.{no_lead, place_at}
use Rattle.cert_make.specs.Inner.Runs.{AreRuns}
use Rattle.cert_make.proofs.LeadSettling.{join_low, join_read, near_low, near_read}
use Rattle.cert_make.proofs.LeadRows.{one_added, all_done}
use Rattle.cert_make.proofs.LeadSteps.{has_one}
use Rattle.cert_make.proofs.leads.lead_step.Goals as goal

pub joins_of-requires-clause-runs : goal.joins_of-requires-clause-runs
joins_of-requires-clause-runs g c κs within = subst (AreRuns (g.C.Chains.map c.args.code.now) c.args.lines.now) (sym c.as_slice.ensures.value) c.requires.links.runs

pub lead_line-requires-clause-near_rank : goal.lead_line-requires-clause-near_rank
lead_line-requires-clause-near_rank g c =
    let code = g.C.Chains.map c.args.code.now in
    let lines = c.args.lines.now in
    let i = c.loop-i.i in
    let a = (get_or lines i no_lead).at in
    near_low code lines a (2 ^ 64 - 1) c.index.result.now c.requires.ranks
    (near_read code lines c.in_ok-ends.ends.items i a c.index.result.now c.in_ok-ends.ensures (place_at lines i no_lead c.loop-i-test.true) c.index.ensures)

pub lead_line-requires-clause-join_rank : goal.lead_line-requires-clause-join_rank
lead_line-requires-clause-join_rank g c =
    let code = g.C.Chains.map c.args.code.now in
    let lines = c.args.lines.now in
    let i = c.loop-i.i in
    let a = (get_or lines i no_lead).at in
    join_low code lines a (2 ^ 64 - 1) c.index-in-loop-i.result.now c.requires.ranks
    (join_read code lines c.in_ok-joins.joins.items i c.index-in-loop-i.result.now c.in_ok-joins.ensures c.loop-i-test.true c.index-in-loop-i.ensures a (place_at lines i no_lead c.loop-i-test.true))

pub unreachable-requires : goal.unreachable-requires
unreachable-requires g c =
    let code = g.C.Chains.map c.args.code.now in
    let lines = c.args.lines.now in
    let i = c.loop-i.i in
    let line = get_or lines i no_lead in
    let place = place_at lines i no_lead c.loop-i-test.true in
    let near = near_read code lines c.in_ok-ends.ends.items i line.at c.index.result.now c.in_ok-ends.ensures place c.index.ensures in
    let join = join_read code lines c.in_ok-joins.joins.items i c.index-in-loop-i.result.now c.in_ok-joins.ensures c.loop-i-test.true c.index-in-loop-i.ensures line.at place in
    has_one code c.args.seeds.now lines c.requires.leads.rise c.requires.leaders (2 ^ 64 - 1) c.requires.ranks line (Contains-get_or lines i no_lead c.loop-i-test.true)
    (c.in-None.ensures code lines near join)

pub loop-i-preserved : goal.loop-i-preserved
loop-i-preserved g c =
    let code = g.C.Chains.map c.args.code.now in
    let lines = c.args.lines.now in
    let i = c.loop-i.i in
    let a = (get_or lines i no_lead).at in
    let place = place_at lines i no_lead c.loop-i-test.true in
    let near = near_read code lines c.in_ok-ends.ends.items i a c.index.result.now c.in_ok-ends.ensures place c.index.ensures in
    let join = join_read code lines c.in_ok-joins.joins.items i c.index-in-loop-i.result.now c.in_ok-joins.ensures c.loop-i-test.true c.index-in-loop-i.ensures a place in
    one_added code c.args.seeds.now lines c.loop-i.next.items c.push.new.self.items i c.in-Some.line c.loop-i-test.true c.loop-i.invariant
    (c.in-Some.ensures code lines near join) c.in_ok-push-in-Some.ensures.items

pub returns : goal.returns
returns g c = all_done (g.C.Chains.map c.args.code.now) c.args.seeds.now c.args.lines.now c.loop-i.next.items c.loop-i.i c.loop-i-test.false c.loop-i.invariant
