use Rattle.std.proofs.Common.{arith}
use Rattle.std.proofs.lemmas.Grind.{common_steps}
use Rattle.std.proofs.lemmas.List.{take_rest}
use Rattle.cfg_io.proofs.Pieces.{Appends_more}
use Rattle.cfg_io.proofs.writing.write_whole.Goals as goal

pub loop-at-preserved : goal.loop-at-preserved
loop-at-preserved g c = record {
  in_bytes = grind (arith, common_steps);
  never_falls = omega arith;
  written = Appends_more _ _ _ c.args.bytes.now c.loop-at.at c.in_ok-at.field-0 c.loop-at.invariant.written (rw take_rest at c.in_ok-at.ensures.appends);
}
