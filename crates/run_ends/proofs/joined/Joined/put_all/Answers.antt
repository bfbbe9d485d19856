use Rattle.std.proofs.Common.{◌++◌, ap, arith, length, length-take}
use Rattle.graph_report.proofs.Giving.{piece_shortens, piece_and_rest}
use Rattle.run_ends.proofs.Pieces.{on_err, prefix_more, moves_part, piece_moves}
use Rattle.run_ends.proofs.joined.Joined.put_all.Goals as goal

pub loop-piece-smaller : goal.loop-piece-smaller
loop-piece-smaller g c =
    piece_shortens c.loop-piece.pieces c.next_piece.follows.lender-at-none c.in-Some.piece.now (rw c.in-Some.is at c.next_piece.follows.holds-at-none)

pub loop-piece-preserved : goal.loop-piece-preserved
loop-piece-preserved g c =
    let left = c.next_piece.follows.lender-at-none in
    let piece = c.in-Some.piece.now in
    let all = piece_and_rest c.loop-piece.pieces left piece (rw c.in-Some.is at c.next_piece.follows.holds-at-none) in
    record {
      never_falls = omega (arith, c.loop-piece.invariant.never_falls, c.put.ensures.never_falls);
      written = piece_moves (g.O.Sink.written c.args.out.now) (g.O.Sink.written c.loop-piece.out) (g.O.Sink.written c.put.new.out)
          (c.args.self.now ++ c.args.pieces.now) c.loop-piece.self c.loop-piece.pieces piece left c.put.new.self c.loop-piece.invariant.written c.in_ok-put.ensures.moved all;
    }

pub put-requires : goal.put-requires
put-requires g c =
    let (some, is, rest) = rw c.in-Some.is at c.next_piece.follows.holds-at-none in
    omega (arith, ap length is, length-take 4096 c.loop-piece.pieces)

pub returns-in_err-put-clause-prefix : goal.returns-in_err-put-clause-prefix
returns-in_err-put-clause-prefix g c =
    let mid = g.O.Sink.written c.loop-piece.out in
    let new = g.O.Sink.written c.put.new.out in
    on_err c.from_residual.result
    (moves_part (g.O.Sink.written c.args.out.now) mid new (c.args.self.now ++ c.args.pieces.now) (c.loop-piece.self ++ c.loop-piece.pieces) c.loop-piece.invariant.written
    (prefix_more mid new c.loop-piece.self c.loop-piece.pieces c.in_err-put.ensures.prefix))
