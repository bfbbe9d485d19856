use Rattle.std.proofs.Common.{◌≡◌, ◌++◌, length}
use Rattle.graph_report.proofs.whole.all_of.Given as goal

-- what was given and what is to come are all of it
abbrev pub invariant-loop-piece : goal.invariant-loop-piece
invariant-loop-piece l = l.out.items ++ l.pieces ≡ l.initial.pieces

abbrev pub decreases-loop-piece : goal.decreases-loop-piece
decreases-loop-piece l = length l.pieces
