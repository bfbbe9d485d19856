use Rattle.std.proofs.Common.{◌++◌, arith}
use Rattle.run_ends.proofs.Pieces.{on_err, piece_moves, piece_part}
use Rattle.cfg_run.proofs.text.put_full_rounds.Goals as goal

pub loop-preserved : goal.loop-preserved
loop-preserved g c = record {
  never_falls = omega (arith, c.loop.invariant.never_falls, c.put_round.ensures.never_falls);
  written = piece_moves (g.O.Sink.written c.args.out.now) (g.O.Sink.written c.loop.out) (g.O.Sink.written c.put_round.new.out) (c.args.joined.now ++ c.args.lines.now)
      c.loop.joined c.loop.lines c.cut.result c.cut.new.self c.put_round.new.joined c.loop.invariant.written c.in_ok-put_round.ensures.moved c.cut.ensures.text;
}

pub returns-in_err-put_round-clause-prefix : goal.returns-in_err-put_round-clause-prefix
returns-in_err-put_round-clause-prefix g c =
    on_err c.from_residual.result
    (piece_part (g.O.Sink.written c.args.out.now) (g.O.Sink.written c.loop.out) (g.O.Sink.written c.put_round.new.out) (c.args.joined.now ++ c.args.lines.now)
    c.loop.joined c.loop.lines c.cut.result c.cut.new.self c.loop.invariant.written c.in_err-put_round.ensures.prefix c.cut.ensures.text)
