use Rattle.std.proofs.Common.{sym, subst, arith}
use Rattle.cert_check.specs.Inner.Jumps.{LeadsAlong}
use Rattle.cert_check.proofs.Jumping.{along_on, far_jump, near_jump, no_jump}
use Rattle.cert_check.proofs.jumps.jump_from.Goals as goal
use Rattle.cert_check.proofs.jumps.jump_from.Goals.{then-first-second, else-first-second}

pub returns-in_default : goal.returns-in_default
returns-in_default c = LeadsAlong.here

pub overflow_cast-middle : goal.overflow_cast-middle
overflow_cast-middle c =
    let near = near_jump c.args.runs.now c.args.jumps.now c.requires.forest c.args.i c.in-Some.next no_jump c.requires.jumps c.in-Some.is in
    omega (arith, near.within, c.requires.few)

pub offset_bounds-jumps-near : goal.offset_bounds-jumps-near
offset_bounds-jumps-near c =
    let near = near_jump c.args.runs.now c.args.jumps.now c.requires.forest c.args.i c.in-Some.next no_jump c.requires.jumps c.in-Some.is in
    omega (arith, near.within, c.requires.few)

pub bounds-jumps-near : goal.bounds-jumps-near
bounds-jumps-near c =
    let near = near_jump c.args.runs.now c.args.jumps.now c.requires.forest c.args.i c.in-Some.next no_jump c.requires.jumps c.in-Some.is in
    omega (arith, near.within, c.requires.jumps.as_many)

pub overflow_cast-far : goal.overflow_cast-far
overflow_cast-far c =
    let far = far_jump c.args.runs.now c.args.jumps.now c.requires.forest c.args.i c.in-Some.next no_jump no_jump c.requires.jumps c.in-Some.is in
    omega (arith, far.within, c.requires.few)

pub offset_bounds-jumps-middle : goal.offset_bounds-jumps-middle
offset_bounds-jumps-middle c =
    let far = far_jump c.args.runs.now c.args.jumps.now c.requires.forest c.args.i c.in-Some.next no_jump no_jump c.requires.jumps c.in-Some.is in
    omega (arith, far.within, c.requires.few)

pub bounds-jumps-middle : goal.bounds-jumps-middle
bounds-jumps-middle c =
    let far = far_jump c.args.runs.now c.args.jumps.now c.requires.forest c.args.i c.in-Some.next no_jump no_jump c.requires.jumps c.in-Some.is in
    omega (arith, far.within, c.requires.jumps.as_many)

pub returns : goal.returns
returns c =
    let runs = c.args.runs.now in
    elim c.if-first-second.branch [
      | then-first-second w ↦
          let near = near_jump runs c.args.jumps.now c.requires.forest c.args.i c.in-Some.next no_jump c.requires.jumps c.in-Some.is in
          let far = far_jump runs c.args.jumps.now c.requires.forest c.args.i c.in-Some.next no_jump no_jump c.requires.jumps c.in-Some.is in
          subst (LeadsAlong runs c.args.i) (sym w.result-is) (LeadsAlong.on c.in-Some.is (along_on near.along far.along))
      | else-first-second w ↦ subst (LeadsAlong runs c.args.i) (sym w.result-is) (LeadsAlong.on c.in-Some.is LeadsAlong.here)
    ]
