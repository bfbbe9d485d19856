use Rattle.core_state.proofs.LowBits.{kept_after, none_before}
use Rattle.core_state.proofs.line.bits_after.Goals as goal

pub returns-else-a-eq63-clause-after : goal.returns-else-a-eq63-clause-after
returns-else-a-eq63-clause-after c = kept_after c.args.bits c.args.a

pub returns-else-a-eq63-clause-before : goal.returns-else-a-eq63-clause-before
returns-else-a-eq63-clause-before c = none_before c.args.bits c.args.a
