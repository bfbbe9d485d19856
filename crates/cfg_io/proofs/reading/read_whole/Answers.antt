use Rattle.std.proofs.Common.{arith}
use Rattle.cfg_io.proofs.Pieces.{Takes_more}
use Rattle.cfg_io.proofs.reading.read_whole.Goals as goal

pub loop-filled-preserved : goal.loop-filled-preserved
loop-filled-preserved g c = record {
  in_buffer = omega (arith, c.in_ok-n.ensures.piece.in_bounds, c.read_piece.new.buffer.ok.0);
  buffer_fits = omega arith;
  taken = Takes_more _ _ _ c.loop-filled.buffer.items c.read_piece.new.buffer.items c.loop-filled.filled c.in_ok-n.n c.loop-filled.invariant.taken c.in_ok-n.ensures.piece.keeps c.in_ok-n.ensures.piece.takes;
  never_falls = omega arith;
  stays_opened = cc;
  tells_as_before = cc;
}
