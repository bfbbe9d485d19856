use Rattle.std.proofs.Common.{take}
use Rattle.std.specs.Prelude.{All}
use Rattle.cert_laws.specs.Lines.{IsReturn}
use Rattle.cert_laws.specs.Ways.{EndsIn}
use Rattle.cert_ends.proofs.missing.none_ends_in.Given as goal

abbrev pub invariant-loop-a : goal.invariant-loop-a
invariant-loop-a g l =
    All (λ a. ¬ EndsIn (g.C.Chains.map l.code) (IsReturn l.returns.lines.now) a) (take l.a-index l.addresses)
