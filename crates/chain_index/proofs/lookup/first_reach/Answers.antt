use Rattle.std.proofs.Common.{ap, ◌∙◌}
use Rattle.chain_index.specs.declared.lookup.SectionReaches.{SectionReaches}
use Rattle.chain_index.proofs.Looking.{begins_behind}
use Rattle.chain_index.proofs.lookup.first_reach.Goals as goal

pub returns-else-s-a-clause-none : goal.returns-else-s-a-clause-none
returns-else-s-a-clause-none c bytes right begins =
    let at = begins_behind c.args.sections.now c.args.a c.count_above.result c.count_above.ensures c.requires begins in
    c.if-s-a.false (ap (λ (r : SectionReaches). r.address) c.in_ok-s.ensures.lookup.1 ∙ at.1 c.in_ok-s.s.now)
