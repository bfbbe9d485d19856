use Rattle.std.proofs.Common.{◌<◌, length, None, inr, arith}
use Rattle.std.proofs.lemmas.Result.{on_ok_weaker}
use Rattle.reached_terms.specs.Inner.Marks.{LeadsBy, ReturnsBy}
use Rattle.reached_terms.proofs.Bits.{on_read, off_read}
use Rattle.reached_terms.proofs.Changes.{number_below, mark-step, link-step, linked-way}
use Rattle.reached_terms.proofs.Growth.{step-given}
use Rattle.reached_terms.proofs.Leading.{returns_by}
use Rattle.reached_terms.proofs.marks.Marks.follow.Goals as goal

pub returns-then-index-2-clause-step : goal.returns-then-index-2-clause-step
returns-then-index-2-clause-step c = on_ok_weaker c.mark.result
    (λ marked map number kept from_is to_is.
    let from = c.args.from in
    let to = c.args.to in
    let old = c.args.self.now in
    let new = c.mark.new.self in
    let within : to < length old.returns.items = omega (arith, number_below map number old kept to to_is, kept.returns) in
    let on = on_read old.returns.items to c.index-2.result.now within c.index-2.ensures c.if-index-2.true in
    step-given map number (λ seeds. ReturnsBy map number from) (λ seeds. LeadsBy map number seeds from to None) old new
    (mark-step map number from old new kept from_is marked)
    (λ seeds right given. returns_by map number _ kept.numbering seeds from to (right.returns to on) given))
    c.mark.ensures

pub returns-clause-step : goal.returns-clause-step
returns-clause-step c = on_ok_weaker c.link.result
    (λ linked map number kept from_is to_is.
    let to = c.args.to in
    let old = c.args.self.now in
    let within : to < length old.returns.items = omega (arith, number_below map number old kept to to_is, kept.returns) in
    link-step map number c.args.from to None old c.link.new.self kept from_is to_is tt linked
    (off_read old.returns.items to c.index-2.result.now within c.index-2.ensures c.if-index-2.false))
    c.link.ensures

pub returns-clause-way : goal.returns-clause-way
returns-clause-way c = on_ok_weaker c.link.result (λ linked. inr (linked-way c.args.from c.args.to None c.args.self.now c.link.new.self linked)) c.link.ensures
