use Rattle.std.proofs.Common.{◌<◌, Some, None, get_or, refl, sym, ap, subst, ◌∙◌, inl, inr, arith}
use Rattle.cfg_model.specs.Program.Chain.{EndsChain, GoesOnTo, IsTerminator}
use Rattle.cfg_model.proofs.Graphs.Runs.{goes_up}
use Rattle.cert_ends.proofs.Placed.{lead_at, lead_known, no_lead, place_at}
use Rattle.cert_check.specs.Inner.Blocks.{owner_by}
use Rattle.cert_check.proofs.Each.{false_true}
use Rattle.cert_check.proofs.Walked.{not_listed, passed_first, run_from, walk_ends, walk_meets, walk_on, walk_starts}
use Rattle.cert_check.proofs.blocks.walk.Goals as goal

pub loop-flow-init : goal.loop-flow-init
loop-flow-init g c =
    let map = g.C.Chains.map c.args.code.now in
    let leads = c.args.leads.now in
    let place = place_at leads c.args.i no_lead c.requires.within in
    record {
      kept = refl;
      walked = walk_starts map leads (owner_by (g.C.Numbered.number c.args.code.now) c.args.owners.now.places.items) c.args.i _ place c.requires.owned;
      stands = lead_known map leads c.requires.leads c.args.i _ place;
      within = omega (arith, c.requires.within);
      passed = passed_first leads c.requires.leads.rise c.args.i no_lead c.requires.within;
    }

pub returns-then-not-claim-clause-run : goal.returns-then-not-claim-clause-run
returns-then-not-claim-clause-run g c =
    walk_meets (g.C.Chains.map c.args.code.now) c.args.leads.now c.flow-flow.ensures.lawful c.requires.leads
    (owner_by (g.C.Numbered.number c.args.code.now) c.loop-flow.owners.places.items) c.args.i c.loop-flow.at c.loop-flow.invariant.walked c.if-not-claim.ensures.cases

pub returns-in-None-clause-run : goal.returns-in-None-clause-run
returns-in-None-clause-run g c =
    let map = g.C.Chains.map c.args.code.now in
    let leads = c.args.leads.now in
    let number = g.C.Numbered.number c.args.code.now in
    let ends : IsTerminator map c.loop-flow.at = subst EndsChain (sym c.flow-flow.ensures.flow) c.in-None.ensures in
    let walked = c.loop-flow.invariant.walked in (
      run_from map leads (owner_by number c.loop-flow.owners.places.items) c.args.i c.loop-flow.at None c.flow-flow.result c.flow-flow.ensures.flow walked (inl ends) ends,
      walk_ends map leads c.flow-flow.ensures.lawful c.requires.leads (owner_by number c.loop-flow.owners.places.items) (owner_by number c.claim.new.self.places.items) c.args.i c.loop-flow.at walked
          c.if-not-claim.ensures.cases (inl ends),
    )

pub returns-then-stands_at-clause-run : goal.returns-then-stands_at-clause-run
returns-then-stands_at-clause-run g c =
    let map = g.C.Chains.map c.args.code.now in
    let leads = c.args.leads.now in
    let number = g.C.Numbered.number c.args.code.now in
    let walked = c.loop-flow.invariant.walked in
    let place = c.if-stands_at.ensures.0 refl in
    let goes : GoesOnTo map c.loop-flow.at c.in-Some.next = c.flow-flow.ensures.flow ∙ ap Some c.in-Some.ensures in
    let lead = lead_at leads c.place_from-ahead.result c.in-Some.next place in (
      run_from map leads (owner_by number c.loop-flow.owners.places.items) c.args.i c.loop-flow.at (Some c.place_from-ahead.result) c.flow-flow.result c.flow-flow.ensures.flow walked (inr (c.in-Some.next, goes, lead)) (c.in-Some.next, place, goes),
      walk_ends map leads c.flow-flow.ensures.lawful c.requires.leads (owner_by number c.loop-flow.owners.places.items) (owner_by number c.claim.new.self.places.items) c.args.i c.loop-flow.at walked
          c.if-not-claim.ensures.cases (inr (c.in-Some.next, goes, lead)),
    )

pub loop-flow-preserved : goal.loop-flow-preserved
loop-flow-preserved g c =
    let map = g.C.Chains.map c.args.code.now in
    let leads = c.args.leads.now in
    let number = g.C.Numbered.number c.args.code.now in
    let lawful = c.flow-flow.ensures.lawful in
    let ahead = c.place_from-ahead.ensures in
    let goes : GoesOnTo map c.loop-flow.at c.in-Some.next = c.flow-flow.ensures.flow ∙ ap Some c.in-Some.ensures in
    record {
      kept = c.claim.ensures.kept ∙ c.loop-flow.invariant.kept;
      walked = walk_on map leads lawful c.requires.leads (owner_by number c.loop-flow.owners.places.items) (owner_by number c.claim.new.self.places.items) c.args.i c.loop-flow.at c.loop-flow.invariant.walked
          c.if-not-claim.ensures.cases c.in-Some.next goes
          (not_listed leads c.requires.leads.rise c.place_from-ahead.result c.in-Some.next ahead.before ahead.there (λ place. false_true (c.if-stands_at.ensures.1 place)));
      stands = (goes_up map c.loop-flow.at c.in-Some.next lawful goes).2;
      within = ahead.within;
      passed = λ k d lt. let low : (get_or leads k d).at < c.in-Some.next = ahead.before k d lt in omega arith;
    }
