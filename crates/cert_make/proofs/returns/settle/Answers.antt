use Rattle.std.proofs.Common.{refl, rules}
use Rattle.cert_make.proofs.Settling.{settled_by_itself}
use Rattle.cert_make.proofs.returns.settle.Goals as goal

pub returns-then-returns_by_itself : goal.returns-then-returns_by_itself
returns-then-returns_by_itself g c = (refl, settled_by_itself (g.C.Chains.map c.args.code.now) c.args.returns.now.lines.now c.args.k (search rules))
