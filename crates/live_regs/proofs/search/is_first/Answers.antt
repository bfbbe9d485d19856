use Rattle.std.proofs.Common.{arith}
use Rattle.live_regs.proofs.Edges.{first_at}
use Rattle.live_regs.proofs.search.is_first.Goals as goal

pub returns-then-before : goal.returns-then-before
returns-then-before c = λ yes. first_at _ _ _ c.requires (omega arith) (c.ends_before-before.ensures c.if-before.true) (c.begins_after-after.ensures yes)
