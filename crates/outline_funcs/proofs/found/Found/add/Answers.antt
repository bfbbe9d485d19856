use Rattle.std.proofs.Common.{sym, ◌∙◌}
use Rattle.std.proofs.lemmas.List.{get_or_default}
use Rattle.outline_funcs.proofs.Extending.{extends_pushed, extends_there}
use Rattle.outline_funcs.proofs.Stamps.{stamped_more}
use Rattle.outline_funcs.proofs.found.Found.add.Goals as goal

pub returns-in_ok-push-clause-stamped : goal.returns-in_ok-push-clause-stamped
returns-in_ok-push-clause-stamped c =
    let stamps = c.args.self.now.stamps.items in
    rw c.in_ok-push.ensures.items
    (stamped_more c.args.stamp c.args.block c.args.self.now.order.items stamps c.requires.within c.requires.stamped
    (λ e. c.if-index-stamp.true (c.index.ensures ∙ (get_or_default stamps c.args.block c.index.result.now 0 c.requires.within ∙ e))))

pub returns-in_ok-push-clause-adds : goal.returns-in_ok-push-clause-adds
returns-in_ok-push-clause-adds c = extends_pushed _ _ c.args.block c.in_ok-push.ensures.items

pub returns-else-index-stamp-clause-adds : goal.returns-else-index-stamp-clause-adds
returns-else-index-stamp-clause-adds c =
    let stamps = c.args.self.now.stamps.items in
    let block = c.args.block in
    extends_there c.args.self.now.order.items block
    ((c.requires.stamped.exact block c.requires.within).0 (get_or_default stamps block 0 c.index.result.now c.requires.within ∙ (sym c.index.ensures ∙ c.if-index-stamp.false)))
