use Rattle.std.proofs.Common.{[], Some, get_or, sym, ap, ◌∙◌, subst, inl, inr}
use Rattle.std.proofs.lemmas.Result.{on_ok_weaker}
use Rattle.std.proofs.lemmas.List.Elements.{Contains-get_or}
use Rattle.cfg_model.specs.declared.flow.Flow.TheVariants.{Branch, Jump, Call, IndirectCall, Table}
use Rattle.cfg_model.specs.Program.Instructions.{targets_at}
use Rattle.cfg_model.specs.Program.Successors.{LeavesFunction, ReturnsByItself}
use Rattle.cfg_model.specs.Program.Reach.{Reached}
use Rattle.cfg_model.proofs.Program.Known.{successor_from_flow}
use Rattle.cfg_model.proofs.Program.Landing.{may_land}
use Rattle.cfg_model.proofs.Program.Listed.{head_in}
use Rattle.reached_terms.specs.Sent.{IsSent}
use Rattle.reached_terms.specs.Inner.Marks.{CallsOn, LeadsOn, ReturnsBy}
use Rattle.reached_terms.proofs.Changes.{mark-step}
use Rattle.reached_terms.proofs.Complete.{ends_stand}
use Rattle.reached_terms.proofs.Growth.{step-given, step-on, called-grow, led_any-grow}
use Rattle.reached_terms.proofs.Leading.{on_successor, on_call, on_itself, on_landing, on_both, number_is}
use Rattle.reached_terms.proofs.Sending.{falls}
use Rattle.reached_terms.proofs.Visits.{some_of, in_first, in_second, in_one, leaves_so, call_visited, indirect_visited, table_visited}
use Rattle.reached_terms.proofs.marks.Marks.visit.Goals as goal

pub returns-in-Branch-clause-step : goal.returns-in-Branch-clause-step
returns-in-Branch-clause-step g c =
    let map = g.C.Chains.map c.args.code.now in
    let number = g.C.Numbered.number c.args.code.now in
    let k = c.args.k in
    let n = c.number-n.result in
    let taken = c.in-Branch.taken in
    let fall = c.in-Branch.fall in
    let has = ends_stand (map k) c.requires.ends in
    let flow = c.in-Branch.ensures.flow in
    let numbering = c.requires.kept.numbering in
    on_ok_weaker c.branch-self.result
    (λ step. step-given map number _ (λ seeds. Reached map seeds k) c.args.self.now c.branch-self.new.self step
    (λ seeds right reached. (
      some_of (LeadsOn map number seeds n) taken (λ b is. on_successor map number _ numbering n k has c.number-n.ensures seeds b (successor_from_flow map k (Branch taken fall) flow b (in_first taken fall b is)) (IsSent.target reached flow (in_one taken b is))),
      some_of (LeadsOn map number seeds n) fall (λ b is. on_successor map number _ numbering n k has c.number-n.ensures seeds b (successor_from_flow map k (Branch taken fall) flow b (in_second taken fall b is)) (IsSent.fall reached flow is)),
      λ cut. on_itself map number _ numbering n k has c.number-n.ensures (subst LeavesFunction (sym flow) (leaves_so taken fall cut)),
    )))
    c.branch-self.ensures.step

pub returns-in-Jump-clause-step : goal.returns-in-Jump-clause-step
returns-in-Jump-clause-step g c =
    let map = g.C.Chains.map c.args.code.now in
    let number = g.C.Numbered.number c.args.code.now in
    let k = c.args.k in
    let target = c.in-Jump.target in
    let has = ends_stand (map k) c.requires.ends in
    on_ok_weaker c.lead.result
    (λ step. step-given map number _ (λ seeds. Reached map seeds k) c.args.self.now c.lead.new.self step
    (λ seeds right reached. on_successor map number _ c.requires.kept.numbering c.number-n.result k has c.number-n.ensures seeds target
    (successor_from_flow map k (Jump target) c.in-Jump.ensures.flow target (head_in target [])) (IsSent.target reached c.in-Jump.ensures.flow (head_in target []))))
    c.lead.ensures.step

pub land-requires-clause-kept : goal.land-requires-clause-kept
land-requires-clause-kept g c κs within = c.in_ok-call_from-in-Call.ensures.step.kept

pub land-requires-clause-calls : goal.land-requires-clause-calls
land-requires-clause-calls g c κs within = may_land (g.C.Chains.map c.args.code.now) c.args.k (Call c.in-Call.target c.in-Call.fall) c.in-Call.ensures.flow tt

pub land-requires-in-IndirectCall-clause-kept : goal.land-requires-in-IndirectCall-clause-kept
land-requires-in-IndirectCall-clause-kept g c κs within = c.in_ok-lead_any-in-IndirectCall.ensures.step.kept

pub land-requires-in-IndirectCall-clause-calls : goal.land-requires-in-IndirectCall-clause-calls
land-requires-in-IndirectCall-clause-calls g c κs within = may_land (g.C.Chains.map c.args.code.now) c.args.k (IndirectCall c.in-IndirectCall.fall) c.in-IndirectCall.ensures.flow tt

pub returns-in_ok-call_from-in-Call-clause-step : goal.returns-in_ok-call_from-in-Call-clause-step
returns-in_ok-call_from-in-Call-clause-step g c =
    let map = g.C.Chains.map c.args.code.now in
    let number = g.C.Numbered.number c.args.code.now in
    let k = c.args.k in
    let n = c.number-n.result in
    let target = c.in-Call.target in
    let fall = c.in-Call.fall in
    let has = ends_stand (map k) c.requires.ends in
    let call = c.in-Call.ensures.flow in
    let numbering = c.requires.kept.numbering in
    on_ok_weaker c.land.result
    (λ step. step-on map number _ _ (λ seeds. Reached map seeds k) c.args.self.now c.call_from.new.self c.land.new.self c.in_ok-call_from-in-Call.ensures.step step
    (λ seeds right reached. (
      IsSent.target reached call (head_in target (targets_at map k)),
      some_of (CallsOn map number seeds n target) fall
          (λ f is. on_call map number _ numbering n k has c.number-n.ensures seeds target f (call ∙ ap (λ o. Some (Call target o)) is) reached),
    ))
    (λ seeds right reached. on_landing map number _ numbering n k has c.number-n.ensures seeds (Call target fall) call tt reached))
    c.land.ensures.step

pub returns-in_ok-call_from-in-Call-clause-visited : goal.returns-in_ok-call_from-in-Call-clause-visited
returns-in_ok-call_from-in-Call-clause-visited g c =
    let map = g.C.Chains.map c.args.code.now in
    let number = g.C.Numbered.number c.args.code.now in
    on_both c.land.result
    (λ step led. call_visited map number c.land.new.self c.number-n.result c.args.k c.number-n.ensures c.in-Call.target c.in-Call.fall c.in-Call.ensures.flow
    (called-grow map number c.call_from.new.self c.land.new.self step.grow c.number-n.result c.in-Call.target c.in-Call.fall c.in_ok-call_from-in-Call.ensures.called) led)
    c.land.ensures.step c.land.ensures.led

pub returns-in_ok-lead_any-in-IndirectCall-clause-step : goal.returns-in_ok-lead_any-in-IndirectCall-clause-step
returns-in_ok-lead_any-in-IndirectCall-clause-step g c =
    let map = g.C.Chains.map c.args.code.now in
    let number = g.C.Numbered.number c.args.code.now in
    let k = c.args.k in
    let n = c.number-n.result in
    let fall = c.in-IndirectCall.fall in
    let has = ends_stand (map k) c.requires.ends in
    let call = c.in-IndirectCall.ensures.flow in
    let numbering = c.requires.kept.numbering in
    on_ok_weaker c.land-in-IndirectCall.result
    (λ step. step-on map number _ _ (λ seeds. Reached map seeds k) c.args.self.now c.lead_any.new.self c.land-in-IndirectCall.new.self c.in_ok-lead_any-in-IndirectCall.ensures.step step
    (λ seeds right reached. some_of (LeadsOn map number seeds n) fall
    (λ b is. on_successor map number _ numbering n k has c.number-n.ensures seeds b (falls map k b (IndirectCall fall) call is).1 (IsSent.fall reached call is)))
    (λ seeds right reached. on_landing map number _ numbering n k has c.number-n.ensures seeds (IndirectCall fall) call tt reached))
    c.land-in-IndirectCall.ensures.step

pub returns-in_ok-lead_any-in-IndirectCall-clause-visited : goal.returns-in_ok-lead_any-in-IndirectCall-clause-visited
returns-in_ok-lead_any-in-IndirectCall-clause-visited g c =
    let map = g.C.Chains.map c.args.code.now in
    let number = g.C.Numbered.number c.args.code.now in
    on_both c.land-in-IndirectCall.result
    (λ step led. indirect_visited map number c.land-in-IndirectCall.new.self c.number-n.result c.args.k c.number-n.ensures c.in-IndirectCall.fall c.in-IndirectCall.ensures.flow
    (led_any-grow map number c.lead_any.new.self c.land-in-IndirectCall.new.self step.grow c.number-n.result c.in-IndirectCall.fall c.in_ok-lead_any-in-IndirectCall.ensures.led) led)
    c.land-in-IndirectCall.ensures.step c.land-in-IndirectCall.ensures.led

pub returns-in-Table-clause-step : goal.returns-in-Table-clause-step
returns-in-Table-clause-step g c =
    let map = g.C.Chains.map c.args.code.now in
    let number = g.C.Numbered.number c.args.code.now in
    let k = c.args.k in
    let n = c.number-n.result in
    let has = ends_stand (map k) c.requires.ends in
    on_ok_weaker c.table.result
    (λ step. step-given map number _ (λ seeds. Reached map seeds k) c.args.self.now c.table.new.self step
    (λ seeds right reached i d below. on_successor map number _ c.requires.kept.numbering n k has c.number-n.ensures seeds (get_or (targets_at map k) i d)
    (successor_from_flow map k (Table c.in-Table.entries c.in-Table.full c.in-Table.is_open) c.in-Table.ensures.flow (get_or (targets_at map k) i d) (Contains-get_or (targets_at map k) i d below))
    (IsSent.target reached c.in-Table.ensures.flow (Contains-get_or (targets_at map k) i d below))))
    c.table.ensures.step

pub returns-in-Table-clause-visited : goal.returns-in-Table-clause-visited
returns-in-Table-clause-visited g c =
    let map = g.C.Chains.map c.args.code.now in
    let number = g.C.Numbered.number c.args.code.now in
    on_ok_weaker c.table.result
    (λ led. table_visited map number c.table.new.self c.number-n.result c.args.k c.number-n.ensures c.in-Table.entries c.in-Table.full c.in-Table.is_open c.in-Table.ensures.flow led)
    c.table.ensures.led

pub returns-in-Return-clause-step : goal.returns-in-Return-clause-step
returns-in-Return-clause-step g c =
    let map = g.C.Chains.map c.args.code.now in
    let number = g.C.Numbered.number c.args.code.now in
    let k = c.args.k in
    let n = c.number-n.result in
    let has = ends_stand (map k) c.requires.ends in
    let leaves : ReturnsByItself map k = elim c.in-Return.is [
      | inl is ↦ subst LeavesFunction (sym (c.flow.ensures.flow ∙ ap (λ f. Some f) is)) tt
      | inr is ↦ subst LeavesFunction (sym (c.flow.ensures.flow ∙ ap (λ f. Some f) is)) tt
    ] in
    on_ok_weaker c.mark.result
    (λ marked. step-given map number (λ seeds. ReturnsBy map number n) (λ seeds. Reached map seeds k) c.args.self.now c.mark.new.self
    (mark-step map number n c.args.self.now c.mark.new.self c.requires.kept (number_is map number _ c.requires.kept.numbering n k has c.number-n.ensures) marked)
    (λ seeds right reached. on_itself map number _ c.requires.kept.numbering n k has c.number-n.ensures leaves))
    c.mark.ensures
