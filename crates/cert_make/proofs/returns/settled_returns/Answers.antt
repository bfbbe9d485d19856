use Rattle.std.proofs.Common.{◌≤◌, List, length, ap, arith, subst}
use Rattle.std.proofs.lemmas.Result.{IfOk-weaker}
use Rattle.std.proofs.lemmas.List.Elements.{length_all_zip}
use Rattle.std.specs.List.{AllZip}
use Rattle.cert_text.specs.declared.lines.ReturnLine.{ReturnLine}
use Rattle.cert_make.specs.Inner.Returns.{HaveSameRanks, IsNextReturn}
use Rattle.cert_make.proofs.Flowing.{flows_same}
use Rattle.cert_make.proofs.Rows.{first_at, same_length}
use Rattle.cert_make.proofs.ReturnSteps.{ended, first_stepped, low_enough, next_stepped, rested}
use Rattle.cert_make.proofs.returns.settled_returns.Goals as goal

pub loop-step-init : goal.loop-step-init
loop-step-init g c = first_stepped (g.C.Chains.map c.args.code.now) c.args.start.items (first_at (g.C.Chains.map c.args.code.now) c.args.start.items c.requires.rising c.requires.stand) c.requires.ranks

pub step-requires-clause-ranks : goal.step-requires-clause-ranks
step-requires-clause-ranks g c κs within =
    rw c.as_slice.ensures.value (low_enough c.loop-step.lines.items c.loop-step._step (omega (arith, c.loop-step-test.true, c.len-step-end.ensures, c.args.start.small)) c.loop-step.invariant.low)

pub step-requires-clause-flows : goal.step-requires-clause-flows
step-requires-clause-flows g c κs within =
    rw c.as_slice.ensures.value (flows_same (g.C.Chains.map c.args.code.now) c.args.start.items c.loop-step.lines.items c.args.flows.now c.loop-step.invariant.at.same c.requires.flows)

pub have_same_ranks-requires : goal.have_same_ranks-requires
have_same_ranks-requires g c =
    let long = length_all_zip _ c.as_slice.result.now c.in_ok-next.next.items c.in_ok-next.ensures in
    omega (arith, long, c.as_slice.ensures.len, c.as_slice-in-loop-step.ensures.len, c.as_slice-in-loop-step-2.ensures.len, ap length c.as_slice.ensures.value, ap length c.as_slice-in-loop-step.ensures.value, ap length c.as_slice-in-loop-step-2.ensures.value)

pub loop-step-preserved : goal.loop-step-preserved
loop-step-preserved g c =
    let code = g.C.Chains.map c.args.code.now in
    next_stepped code c.args.start.items c.loop-step.lines.items c.in_ok-next.next.items c.loop-step._step c.loop-step.invariant
    (subst (λ (ls : List ReturnLine). AllZip (IsNextReturn code ls) ls c.in_ok-next.next.items) c.as_slice.ensures.value c.in_ok-next.ensures)

pub returns-then-have_same_ranks : goal.returns-then-have_same_ranks
returns-then-have_same_ranks g c =
    let code = g.C.Chains.map c.args.code.now in
    let lines = c.loop-step.lines.items in
    let next = c.in_ok-next.next.items in
    rested code c.args.start.items lines next c.loop-step._step c.loop-step.invariant
    (subst (λ (ls : List ReturnLine). AllZip (IsNextReturn code ls) ls next) c.as_slice.ensures.value c.in_ok-next.ensures)
    (subst (λ (ls : List ReturnLine). HaveSameRanks next ls) c.as_slice-in-loop-step-2.ensures.value
    (subst (λ (ls : List ReturnLine). HaveSameRanks ls c.as_slice-in-loop-step-2.result.now) c.as_slice-in-loop-step.ensures.value (c.have_same_ranks.ensures c.if-have_same_ranks.true)))

pub step-requires-2-clause-ranks : goal.step-requires-2-clause-ranks
step-requires-2-clause-ranks g c κs within =
    rw c.as_slice-2.ensures.value (low_enough c.loop-step.lines.items c.loop-step._step (omega (arith, c.loop-step.auto._step-end, c.len-step-end.ensures, c.args.start.small)) c.loop-step.invariant.low)

pub step-requires-2-clause-flows : goal.step-requires-2-clause-flows
step-requires-2-clause-flows g c κs within =
    rw c.as_slice-2.ensures.value (flows_same (g.C.Chains.map c.args.code.now) c.args.start.items c.loop-step.lines.items c.args.flows.now c.loop-step.invariant.at.same c.requires.flows)

pub returns : goal.returns
returns g c =
    let code = g.C.Chains.map c.args.code.now in
    let start = c.args.start.items in
    let lines = c.loop-step.lines.items in
    let many : length lines ≤ c.loop-step._step = omega (arith, c.loop-step-test.false, c.len-step-end.ensures, same_length start lines c.loop-step.invariant.at.same) in
    IfOk-weaker c.step-2.result _ _
    (λ v step. ended code start lines v.items c.loop-step._step c.loop-step.invariant (subst (λ (ls : List ReturnLine). AllZip (IsNextReturn code ls) ls v.items) c.as_slice-2.ensures.value step) many)
    c.step-2.ensures
