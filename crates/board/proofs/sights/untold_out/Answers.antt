use Rattle.std.proofs.Common.{subst}
use Rattle.core_state.specs.Reads.{IsNextToTell}
use Rattle.board.specs.Pieces.{part_in}
use Rattle.board.proofs.Untold.{shown_here}
use Rattle.board.proofs.sights.untold_out.Goals as goal

pub learn-requires-clause-shown : goal.learn-requires-clause-shown
learn-requires-clause-shown g c =
    shown_here c.args.slot c.args.k c.in-Some.w c.args.seat.now.me c.look_out-next.new.seat.me c.look_out-next.ensures.same c.requires.out
    (subst (IsNextToTell (part_in c.requires.out.piece).terminators c.args.k) c.in-Some.is (c.look_out-next.ensures.answer c.requires.out.piece c.requires.out.out.here))
