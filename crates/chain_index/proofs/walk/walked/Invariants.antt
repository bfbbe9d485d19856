use Rattle.std.proofs.Common.{◌≡◌, ◌-◌, length}
use Rattle.chain_index.proofs.Walks.{IsOnChain}
use Rattle.chain_index.proofs.walk.walked.Given as goal

abbrev pub invariant-loop-at : goal.invariant-loop-at
invariant-loop-at l = record { chain : IsOnChain l.image l.fn.s l.i l.at; kept : l.forms ≡ l.fn.forms }

abbrev pub decreases-loop-at : goal.decreases-loop-at
decreases-loop-at l = length l.code - l.at
