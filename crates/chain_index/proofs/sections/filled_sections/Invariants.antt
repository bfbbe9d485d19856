use Rattle.chain_index.specs.Inner.{AreFirst}
use Rattle.chain_index.proofs.sections.filled_sections.Given as goal

abbrev pub invariant-loop-i : goal.invariant-loop-i
invariant-loop-i l = AreFirst l.image l.i l.sections.items
