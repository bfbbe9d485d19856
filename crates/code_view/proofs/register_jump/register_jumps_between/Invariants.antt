use Rattle.code_view.specs.Inner.{AreJumpsOfFirst}
use Rattle.code_view.specs.RegisterJump.{IsBetween}
use Rattle.code_view.proofs.register_jump.register_jumps_between.Given as goal

-- all of the sections before are found
abbrev pub invariant-loop-i : goal.invariant-loop-i
invariant-loop-i l = AreJumpsOfFirst l.image (IsBetween l.after l.last) l.i l.jumps.items
