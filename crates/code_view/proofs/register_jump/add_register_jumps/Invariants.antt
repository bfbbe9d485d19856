use Rattle.code_view.specs.RegisterJump.{IsBetween}
use Rattle.code_view.proofs.JumpsFound.{AreJumpsBefore}
use Rattle.code_view.proofs.register_jump.add_register_jumps.Given as goal

-- all of the halfwords before are found
abbrev pub invariant-loop-place : goal.invariant-loop-place
invariant-loop-place l = AreJumpsBefore l.image (IsBetween l.fn.after l.fn.last) l.fn.i l.section l.place l.jumps.items
