use Rattle.std.proofs.Common.{◌<◌, Some, None, get_or, refl, inl, inr, arith}
use Rattle.cfg_model.proofs.Graphs.Runs.{goes_up}
use Rattle.cert_ends.proofs.Placed.{lead_at, lead_known, no_lead, place_at}
use Rattle.cert_make.proofs.Along.{false_true}
use Rattle.cert_make.proofs.Walked.{not_listed, passed_first, run_from, walk_on, walk_starts}
use Rattle.cert_make.proofs.runs.walk.Goals as goal

pub loop-next-init : goal.loop-next-init
loop-next-init g c =
    let map = g.C.Chains.map c.args.code.now in
    let lines = c.args.lines.now in
    let place = place_at lines c.args.i no_lead c.requires.within in
    record {
      walked = walk_starts map lines c.args.i _ place;
      stands = lead_known map lines c.requires.leads c.args.i _ place;
      within = omega (arith, c.requires.within);
      passed = passed_first lines c.requires.leads.rise c.args.i no_lead c.requires.within;
    }

pub returns-in-None : goal.returns-in-None
returns-in-None g c =
    run_from (g.C.Chains.map c.args.code.now) c.args.lines.now c.args.i c.loop-next.at None c.loop-next.invariant.walked (inl c.in-None.ensures) c.in-None.ensures

pub returns-then-stands_at : goal.returns-then-stands_at
returns-then-stands_at g c =
    let lines = c.args.lines.now in
    let place = c.if-stands_at.ensures.0 refl in
    let goes = c.in-Some.ensures in
    let lead = lead_at lines c.place_from-ahead.result c.in-Some.next place in
    run_from (g.C.Chains.map c.args.code.now) lines c.args.i c.loop-next.at (Some c.place_from-ahead.result) c.loop-next.invariant.walked (inr (c.in-Some.next, goes, lead)) (c.in-Some.next, place, goes)

pub loop-next-preserved : goal.loop-next-preserved
loop-next-preserved g c =
    let map = g.C.Chains.map c.args.code.now in
    let lines = c.args.lines.now in
    let lawful = c.term-k.ensures.lawful in
    let ahead = c.place_from-ahead.ensures in
    let goes = c.in-Some.ensures in
    record {
      walked = walk_on map lines c.args.i c.loop-next.at c.in-Some.next c.loop-next.invariant.walked goes
          (not_listed lines c.requires.leads.rise c.place_from-ahead.result c.in-Some.next ahead.before ahead.there (λ place. false_true (c.if-stands_at.ensures.1 place)));
      stands = (goes_up map c.loop-next.at c.in-Some.next lawful goes).2;
      within = ahead.within;
      passed = λ k d lt. let low : (get_or lines k d).at < c.in-Some.next = ahead.before k d lt in omega arith;
    }
