use Rattle.std.proofs.Common.{subst}
use Rattle.std.proofs.lemmas.Result.{on_ok_weaker}
use Rattle.reached_terms.specs.Inner.Marks.{LeadsBy, LeadsOn, ReturnsBy}
use Rattle.reached_terms.proofs.Changes.{mark-step}
use Rattle.reached_terms.proofs.Growth.{step-given}
use Rattle.reached_terms.proofs.Leading.{leads_on, returns_by}
use Rattle.reached_terms.proofs.marks.Marks.pass.Goals as goal

pub returns-in-None-clause-step : goal.returns-in-None-clause-step
returns-in-None-clause-step g c =
    let map = g.C.Chains.map c.args.code.now in
    let number = g.C.Numbered.number c.args.code.now in
    let from = c.args.way.from in
    let to = c.args.way.to in
    let old = c.args.self.now in
    on_ok_weaker c.mark.result
    (λ marked. step-given map number (λ seeds. ReturnsBy map number from) _ old c.mark.new.self
    (mark-step map number from old c.mark.new.self c.requires.kept c.requires.way.from marked)
    (λ seeds right given. returns_by map number _ c.requires.kept.numbering seeds from to given.1 (subst (λ o. LeadsBy map number seeds from to o) c.in-None.is given.0)))
    c.mark.ensures

pub returns-in-Some-clause-step : goal.returns-in-Some-clause-step
returns-in-Some-clause-step g c =
    let map = g.C.Chains.map c.args.code.now in
    let number = g.C.Numbered.number c.args.code.now in
    let from = c.args.way.from in
    let to = c.args.way.to in
    let fall = c.in-Some.fall in
    on_ok_weaker c.release.result
    (λ step. step-given map number (λ seeds. LeadsOn map number seeds from fall) _ c.args.self.now c.release.new.self step
    (λ seeds right given. leads_on map number seeds from to fall given.1 (subst (λ o. LeadsBy map number seeds from to o) c.in-Some.is given.0)))
    c.release.ensures.step
