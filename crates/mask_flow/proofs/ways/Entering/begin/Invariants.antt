use Rattle.mask_flow.specs.Inner.{AreLinked}
use Rattle.mask_flow.proofs.ways.Entering.begin.Given as goal

abbrev pub invariant-loop-way : goal.invariant-loop-way
invariant-loop-way l = AreLinked l.nodes l.way-index l.self
