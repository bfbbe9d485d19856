use Rattle.table_cuts.proofs.Kept.{HaveCuts}
use Rattle.table_cuts.proofs.cuts.cuts_of.Given as goal

abbrev pub invariant-loop-found : goal.invariant-loop-found
invariant-loop-found l = HaveCuts l.jumps l.bases.items l.cuts l.found-index
