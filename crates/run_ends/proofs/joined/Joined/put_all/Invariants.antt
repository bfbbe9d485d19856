use Rattle.std.proofs.Common.{◌≤◌, ◌++◌, length}
use Rattle.run_ends.specs.Told.{Moves}
use Rattle.run_ends.proofs.joined.Joined.put_all.Given as goal

-- what was written, what is joined and what is to come are all of the text
abbrev pub invariant-loop-piece : goal.invariant-loop-piece
invariant-loop-piece g l = record {
  never_falls : g.O.Sink.faults l.fn.out ≤ g.O.Sink.faults l.out;
  written : Moves (g.O.Sink.written l.fn.out) (g.O.Sink.written l.out) (l.fn.self ++ l.fn.pieces) (l.self ++ l.pieces);
}

abbrev pub decreases-loop-piece : goal.decreases-loop-piece
decreases-loop-piece g l = length l.pieces
