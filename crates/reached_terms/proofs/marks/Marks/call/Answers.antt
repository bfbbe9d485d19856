use Rattle.std.proofs.Common.{◌<◌, length, Some, inr, arith}
use Rattle.std.proofs.lemmas.Result.{on_ok_weaker}
use Rattle.reached_terms.specs.Inner.Marks.{LeadsBy, LeadsOn}
use Rattle.reached_terms.proofs.Bits.{on_read, off_read}
use Rattle.reached_terms.proofs.Changes.{number_below, link-step, linked-way}
use Rattle.reached_terms.proofs.Growth.{step-given}
use Rattle.reached_terms.proofs.Leading.{leads_on}
use Rattle.reached_terms.proofs.marks.Marks.call.Goals as goal

pub returns-then-index-clause-step : goal.returns-then-index-clause-step
returns-then-index-clause-step g c =
    let map = g.C.Chains.map c.args.code.now in
    let number = g.C.Numbered.number c.args.code.now in
    let from = c.args.from in
    let to = c.args.to in
    let fall = c.args.fall in
    let old = c.args.self.now in
    let kept = c.requires.kept in
    let within : to < length old.returns.items = omega (arith, number_below map number old kept to c.requires.to, kept.returns) in
    let on = on_read old.returns.items to c.index.result.now within c.index.ensures c.if-index.true in
    on_ok_weaker c.release.result
    (λ step. step-given map number (λ seeds. LeadsOn map number seeds from fall) (λ seeds. LeadsBy map number seeds from to (Some fall)) old c.release.new.self step
    (λ seeds right given. leads_on map number seeds from to fall (right.returns to on) given))
    c.release.ensures.step

pub returns-else-index-clause-step : goal.returns-else-index-clause-step
returns-else-index-clause-step g c =
    let map = g.C.Chains.map c.args.code.now in
    let number = g.C.Numbered.number c.args.code.now in
    let to = c.args.to in
    let old = c.args.self.now in
    let kept = c.requires.kept in
    let within : to < length old.returns.items = omega (arith, number_below map number old kept to c.requires.to, kept.returns) in
    on_ok_weaker c.link.result
    (λ linked. link-step map number c.args.from to (Some c.args.fall) old c.link.new.self kept c.requires.from c.requires.to c.requires.has linked
    (off_read old.returns.items to c.index.result.now within c.index.ensures c.if-index.false))
    c.link.ensures

pub returns-else-index-clause-way : goal.returns-else-index-clause-way
returns-else-index-clause-way g c = on_ok_weaker c.link.result (λ linked. inr (linked-way c.args.from c.args.to (Some c.args.fall) c.args.self.now c.link.new.self linked)) c.link.ensures
