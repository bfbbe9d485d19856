use Rattle.std.proofs.Common.{◌+◌, IsTrue, true, take, refl, sym, subst}
use Rattle.mask_flow.specs.declared.ways.Way.{Way}
use Rattle.live_regs.specs.Inner.{AddsWays}
use Rattle.live_regs.proofs.Added.{adds_none, more_call, more_left, more_way, all_added}
use Rattle.live_regs.proofs.gather.add_ways.Goals as goal
use Rattle.live_regs.proofs.gather.add_ways.Goals.{then-not-is_call+in-Some+in_ok-push-in-Some, then-not-is_call+in-None, else-not-is_call}

pub loop-edge-init : goal.loop-edge-init
loop-edge-init c = adds_none _ _ _

pub loop-edge-preserved : goal.loop-edge-preserved
loop-edge-preserved c =
    let inside = c.loop-edge-test.true in
    let h = c.loop-edge.invariant in
    let at = c.loop-edge.edge-index in
    let old = c.args.ways.now.items in
    elim c.if-not-is_call.branch [
      | then-not-is_call+in-Some+in_ok-push-in-Some w ↦
          let no : IsTrue c.is_call.result → ⊥ = λ yes. let f = w.if-not-is_call.true in cc in
          let way : Way = record { from = c.args.place; to = w.in-Some.to } in
          subst (λ b. AddsWays (take (at + 1) c.args.edges.now) c.args.body.now c.args.place old c.if-not-is_call.ways.items b) (sym w.leaves-is)
          (subst (λ v. AddsWays (take (at + 1) c.args.edges.now) c.args.body.now c.args.place old v.items c.loop-edge.leaves) (sym w.ways-is)
          (more_way c.args.body.now c.args.place c.args.edges.now at old c.loop-edge.ways.items c.loop-edge.leaves _ inside h way _ w.in_ok-push-in-Some.ensures.items
          (record { no_call = c.is_call.ensures.other no; from = refl; target = w.in-Some.ensures.some })))
      | then-not-is_call+in-None w ↦
          let no : IsTrue c.is_call.result → ⊥ = λ yes. let f = w.if-not-is_call.true in cc in
          subst (λ b. AddsWays (take (at + 1) c.args.edges.now) c.args.body.now c.args.place old c.if-not-is_call.ways.items b) (sym w.leaves-is)
          (subst (λ v. AddsWays (take (at + 1) c.args.edges.now) c.args.body.now c.args.place old v.items true) (sym w.ways-is)
          (more_left c.args.body.now c.args.place c.args.edges.now at old c.loop-edge.ways.items c.loop-edge.leaves _ inside h (c.is_call.ensures.other no) w.in-None.ensures.none))
      | else-not-is_call w ↦
          let yes : IsTrue c.is_call.result = let f = w.if-not-is_call.false in f in
          subst (λ b. AddsWays (take (at + 1) c.args.edges.now) c.args.body.now c.args.place old c.if-not-is_call.ways.items b) (sym w.leaves-is)
          (subst (λ v. AddsWays (take (at + 1) c.args.edges.now) c.args.body.now c.args.place old v.items c.loop-edge.leaves) (sym w.ways-is)
          (more_call c.args.body.now c.args.place c.args.edges.now at old c.loop-edge.ways.items c.loop-edge.leaves _ inside h (c.is_call.ensures.call yes)))
    ]

pub returns : goal.returns
returns c = all_added _ _ _ _ _ _ _ c.loop-edge-test.false c.loop-edge.invariant
