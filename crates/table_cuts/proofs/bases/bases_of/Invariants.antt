use Rattle.table_cuts.proofs.Found.{HaveBases}
use Rattle.table_cuts.proofs.bases.bases_of.Given as goal

abbrev pub invariant-loop-found : goal.invariant-loop-found
invariant-loop-found l = HaveBases l.jumps l.bases.items l.found-index
