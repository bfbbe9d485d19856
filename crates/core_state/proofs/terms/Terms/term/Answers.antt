use Rattle.std.proofs.Common.{◌∙◌}
use Rattle.address_map.specs.Keys.{with_new}
use Rattle.address_map.proofs.PairsKept.{is_new}
use Rattle.core_state.proofs.terms.Terms.term.Goals as goal

pub returns-clause-entered : goal.returns-clause-entered
returns-clause-entered c = c.in_ok-add.ensures.added ∙ (λ i. with_new (c.self.view_is i) c.args.k (c.new.ensures i))

pub returns-clause-answer : goal.returns-clause-answer
returns-clause-answer c = is_new _ _ c.self.view_is c.args.k c.in_ok-add.field-0 c.in_ok-add.ensures.answer
