use Rattle.std.proofs.Common.{take}
use Rattle.std.specs.Prelude.{Contains}
use Rattle.cert_make.specs.Inner.Fronts.{IsFrontOf}
use Rattle.cert_make.proofs.fronts.front_of.Given as goal

abbrev pub invariant-loop-source : goal.invariant-loop-source
invariant-loop-source l = IsFrontOf (Contains (take l.source-index l.sources)) l.front.items
