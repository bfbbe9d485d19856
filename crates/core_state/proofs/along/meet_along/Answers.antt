use Rattle.cfg_model.proofs.Program.ChainPlaces.{Climbed, starts_up, steps_up, meets_at}
use Rattle.core_state.proofs.along.meet_along.Goals as goal

pub loop-a-init : goal.loop-a-init
loop-a-init g c =
    let map = g.W.Walk.map c.args.walk.now in
    let climb = c.climb-b.ensures in
    let climbed : Climbed map c.args.q c.args.p c.climb-b.result = record { on_chain = climb.on_chain; ahead = climb.ahead; found = climb.found } in
    record {
      lawful = climb.lawful;
      up = starts_up map c.args.p c.args.q c.climb-b.result climbed;
      leads = c.requires.first_leads;
      known = c.requires.first;
      known_too = climb.known;
    }

pub loop-a-preserved : goal.loop-a-preserved
loop-a-preserved g c =
    let map = g.W.Walk.map c.args.walk.now in
    let a = c.loop-a.a in
    let b = c.loop-a.b in
    let next = c.towards-a.result in
    let onward = c.towards-a.ensures in
    let climb = c.climb-b-in-loop-a.ensures in
    let climbed : Climbed map b next c.climb-b-in-loop-a.result = record { on_chain = climb.on_chain; ahead = climb.ahead; found = climb.found } in
    record {
      lawful = climb.lawful;
      up = steps_up map c.args.p c.args.q a b next c.climb-b-in-loop-a.result c.loop-a.invariant.up c.loop-a-test.true onward.onward onward.above climbed;
      leads = onward.leads;
      known = onward.known;
      known_too = climb.known;
    }

pub returns : goal.returns
returns g c =
    let map = g.W.Walk.map c.args.walk.now in
    meets_at map c.loop-a.invariant.lawful c.args.p c.args.q c.loop-a.a c.loop-a.b c.loop-a.invariant.up c.loop-a-test.false
