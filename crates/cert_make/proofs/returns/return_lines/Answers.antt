use Rattle.std.proofs.Common.{◌≡◌, List, map, ◌∙◌, ap, subst, sym}
use Rattle.cert_text.specs.declared.lines.ReturnLine.{ReturnLine}
use Rattle.cfg_model.specs.declared.flow.Flow.{Flow}
use Rattle.cert_make.specs.Inner.Returns.{AreFlows}
use Rattle.cert_make.proofs.CanonicalReturns.{all_listed, start_rises, start_stands, canonical_returns}
use Rattle.cert_make.proofs.Flowing.{flows_same}
use Rattle.cert_make.proofs.Rows.{at_of}
use Rattle.cert_make.proofs.returns.return_lines.Goals as goal

pub flows_of-requires-clause-stand : goal.flows_of-requires-clause-stand
flows_of-requires-clause-stand g c κs within =
    start_stands (g.C.Chains.map c.args.code.now) c.args.returns.now c.as_slice.result.now (ap (λ (ls : List ReturnLine). map at_of ls) c.as_slice.ensures.value ∙ c.in_ok-plain.ensures) c.requires.terminators

pub with_ranks-requires-clause-rising : goal.with_ranks-requires-clause-rising
with_ranks-requires-clause-rising g c κs within =
    start_rises c.args.returns.now c.as_slice-2.result.now (ap (λ (ls : List ReturnLine). map at_of ls) c.as_slice-2.ensures.value ∙ c.in_ok-plain.ensures) c.requires.rising

pub with_ranks-requires-clause-stand : goal.with_ranks-requires-clause-stand
with_ranks-requires-clause-stand g c κs within =
    start_stands (g.C.Chains.map c.args.code.now) c.args.returns.now c.as_slice-2.result.now (ap (λ (ls : List ReturnLine). map at_of ls) c.as_slice-2.ensures.value ∙ c.in_ok-plain.ensures) c.requires.terminators

pub settled_returns-requires-clause-rising : goal.settled_returns-requires-clause-rising
settled_returns-requires-clause-rising g c κs within = start_rises c.args.returns.now c.in_ok-start.start.items (c.in_ok-start.ensures.same ∙ ap (λ (ls : List ReturnLine). map at_of ls) c.as_slice-2.ensures.value ∙ c.in_ok-plain.ensures) c.requires.rising

pub settled_returns-requires-clause-stand : goal.settled_returns-requires-clause-stand
settled_returns-requires-clause-stand g c κs within = start_stands (g.C.Chains.map c.args.code.now) c.args.returns.now c.in_ok-start.start.items (c.in_ok-start.ensures.same ∙ ap (λ (ls : List ReturnLine). map at_of ls) c.as_slice-2.ensures.value ∙ c.in_ok-plain.ensures) c.requires.terminators

pub settled_returns-requires-clause-flows : goal.settled_returns-requires-clause-flows
settled_returns-requires-clause-flows g c κs within =
    subst (λ (fs : List Flow). AreFlows (g.C.Chains.map c.args.code.now) c.in_ok-start.start.items fs) (sym c.as_slice-4.ensures.value)
    (flows_same (g.C.Chains.map c.args.code.now) c.as_slice.result.now c.in_ok-start.start.items c.in_ok-flows.flows.items
    (c.in_ok-start.ensures.same ∙ ap (λ (ls : List ReturnLine). map at_of ls) (c.as_slice-2.ensures.value ∙ sym c.as_slice.ensures.value)) c.in_ok-flows.ensures)

pub returns : goal.returns
returns g c =
    let code = g.C.Chains.map c.args.code.now in
    let at : map at_of c.in_ok-start.start.items ≡ c.args.returns.now = c.in_ok-start.ensures.same ∙ ap (λ (ls : List ReturnLine). map at_of ls) c.as_slice-2.ensures.value ∙ c.in_ok-plain.ensures in
    λ seeds exact. canonical_returns code c.args.returns.now c.in_ok-start.start.items c.in_ok-lines.lines.items at c.requires.rising
    (c.in_ok-lines.ensures seeds (all_listed code seeds c.args.returns.now c.in_ok-start.start.items at exact)) seeds exact
