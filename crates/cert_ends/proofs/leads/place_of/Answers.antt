use Rattle.std.proofs.Common.{rules, Ok, Err}
use Rattle.std.proofs.lemmas.List.Sorted.{answers_always}
use Rattle.cert_text.specs.declared.lines.LeadLine.{LeadLine}
use Rattle.outline_funcs.proofs.Search.{searched}
use Rattle.cert_ends.proofs.leads.place_of.Goals as goal

pub returns-in-Ok : goal.returns-in-Ok
returns-in-Ok c =
    let by_address = c.in-Ok.ensures.position (λ (l : LeadLine). l.at) (answers_always _ _ _ (λ f a r g called. search rules)) in
    let at = searched (λ (l : LeadLine). l.at) c.args.leads.now c.requires c.args.a (Ok c.in-Ok.i) c.in-Ok.ensures.bound by_address in
    record { within = at.0; address = at.1 }

pub returns-in-Err : goal.returns-in-Err
returns-in-Err c = λ has.
    let by_address = c.in-Err.ensures.position (λ (l : LeadLine). l.at) (answers_always _ _ _ (λ f a r g called. search rules)) in
    let none = searched (λ (l : LeadLine). l.at) c.args.leads.now c.requires c.args.a (Err c.in-Err.field-0) c.in-Err.ensures.bound by_address in
    none has.line has.listed has.address
