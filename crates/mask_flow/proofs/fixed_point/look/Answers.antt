use Rattle.std.proofs.Common.{◌+◌, ◌<◌, length, All, IsTrue, sym, subst}
use Rattle.std.proofs.lemmas.List.Elements.{All-get_or, Contains-get_or}
use Rattle.mask_flow.specs.Reaches.{IsWithin}
use Rattle.mask_flow.specs.Inner.{KeepsSpread}
use Rattle.mask_flow.proofs.Passing.{IsLookedAt, keeps_step, looked_changed, looked_same, looked_all}
use Rattle.mask_flow.proofs.Sums.{fit_of}
use Rattle.mask_flow.proofs.fixed_point.look.Goals as goal
use Rattle.mask_flow.proofs.fixed_point.look.Goals.{then-pass, else-pass}

pub loop-way-preserved : goal.loop-way-preserved
loop-way-preserved c =
    let at = c.loop-way.way-index in
    let inside : at < length c.args.ways.now = c.loop-way-test.true in
    let within : All (IsWithin (length c.loop-way.masks)) c.args.ways.now = subst (λ n. All (IsWithin n) c.args.ways.now) (sym c.loop-way.auto.masks) c.requires.within in
    let keeps : KeepsSpread c.args.stops.now c.args.ways.now c.loop-way.masks c.pass.new.masks =
    subst (KeepsSpread c.args.stops.now c.args.ways.now c.loop-way.masks) (sym c.pass.ensures.new)
    (keeps_step c.args.stops.now c.args.ways.now c.loop-way.masks _ (fit_of c.args.stops.now c.type_inv.stops) (All-get_or (IsWithin (length c.loop-way.masks)) c.args.ways.now at _ inside within) (Contains-get_or c.args.ways.now at _ inside)) in
    elim c.if-pass.branch [
      | then-pass w ↦ subst (IsLookedAt c.args.stops.now c.args.ways.now (at + 1) c.args.masks.now c.pass.new.masks) (sym w.more-is)
          (looked_changed c.args.stops.now c.args.ways.now at c.args.masks.now c.loop-way.masks c.pass.new.masks c.loop-way.more c.loop-way.invariant keeps (c.pass.ensures.more w.if-pass.true))
      | else-pass w ↦
          let no : ¬ IsTrue c.pass.result = λ yes. let f = w.if-pass.false in cc in
          subst (IsLookedAt c.args.stops.now c.args.ways.now (at + 1) c.args.masks.now c.pass.new.masks) (sym w.more-is)
          (looked_same c.args.stops.now c.args.ways.now at c.args.masks.now c.loop-way.masks c.pass.new.masks c.loop-way.more _ inside c.loop-way.invariant (c.pass.ensures.same no) (c.pass.ensures.settled no))
    ]

pub returns-clause-settled : goal.returns-clause-settled
returns-clause-settled c = λ no. looked_all _ _ _ _ c.loop-way-test.false (c.loop-way.invariant.settled no)
