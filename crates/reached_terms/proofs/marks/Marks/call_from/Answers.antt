use Rattle.std.proofs.Common.{Some, sym, subst}
use Rattle.std.specs.Prelude.{IfSome, OnOk}
use Rattle.std.proofs.lemmas.Result.{on_ok_weaker}
use Rattle.reached_terms.specs.Sent.{IsSent}
use Rattle.reached_terms.specs.Inner.Marks.{CallsOn, IsCalled, LeadsBy}
use Rattle.reached_terms.proofs.Growth.{step-on}
use Rattle.reached_terms.proofs.Leading.{call_leads, called, on_both}
use Rattle.reached_terms.proofs.marks.Marks.call_from.Goals as goal

pub returns-in-Some-clause-step : goal.returns-in-Some-clause-step
returns-in-Some-clause-step g c =
    let map = g.C.Chains.map c.args.code.now in
    let number = g.C.Numbered.number c.args.code.now in
    let mid = c.arrive.new.self in
    let first = c.in_ok-to.ensures.step in
    let at = c.in_ok-to.ensures.there in
    let n = c.args.n in
    let target = c.args.target in
    let to = c.in_ok-to.to in
    let fall = c.in-Some.fall in
    on_ok_weaker c.call.result
    (λ step. step-on map number (λ seeds. IsSent map seeds target) (λ seeds. LeadsBy map number seeds n to (Some fall)) _ c.args.self.now mid c.call.new.self first step
    (λ seeds right given. given.0)
    (λ seeds right given. call_leads map number seeds mid n target to fall at (subst (λ o. IfSome o (CallsOn map number seeds n target)) c.in-Some.is given.1)))
    c.call.ensures.step

pub returns-in-Some-clause-called : goal.returns-in-Some-clause-called
returns-in-Some-clause-called g c =
    let map = g.C.Chains.map c.args.code.now in
    let number = g.C.Numbered.number c.args.code.now in
    let mid = c.arrive.new.self in
    let last = c.call.new.self in
    let target = c.args.target in
    let n = c.args.n in
    let to = c.in_ok-to.to in
    let fall = c.in-Some.fall in
    subst (λ f. OnOk c.call.result (IsCalled map number last n target f)) (sym c.in-Some.is)
    (on_both c.call.result (λ step way. called map number mid last n target to fall c.in_ok-to.ensures.there c.in_ok-to.ensures.sent step.grow way) c.call.ensures.step c.call.ensures.way)
