use Rattle.std.proofs.Common.{sym}
use Rattle.chain_index.proofs.Counts.{last_count-got}
use Rattle.chain_index.proofs.lookup.halfwords.Goals as goal

pub returns-in-Some : goal.returns-in-Some
returns-in-Some c = sym (last_count-got c.args.sections.now c.in-Some.lowest.now (sym c.in-Some.ensures.value))
