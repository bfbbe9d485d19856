use Rattle.std.proofs.Common.{rules, Ok, Err}
use Rattle.std.proofs.lemmas.List.{get_or_default}
use Rattle.std.proofs.lemmas.List.Sorted.{answers_always}
use Rattle.cert_text.specs.declared.lines.ReturnLine.{ReturnLine}
use Rattle.outline_funcs.proofs.Search.{searched}
use Rattle.cert_ends.proofs.returns.return_at.Goals as goal

pub returns-in-Ok : goal.returns-in-Ok
returns-in-Ok c =
    let by_address = c.in-Ok.ensures.position (λ (l : ReturnLine). l.at) (answers_always _ _ _ (λ f a r g called. search rules)) in
    let at = searched (λ (l : ReturnLine). l.at) c.args.returns.now c.requires c.args.k (Ok c.in-Ok.i) c.in-Ok.ensures.bound by_address in
    ((c.in-Ok.i, at.0, get_or_default c.args.returns.now c.in-Ok.i _ _ at.0), at.1 _)

pub returns-in-Err : goal.returns-in-Err
returns-in-Err c = λ has.
    let by_address = c.in-Err.ensures.position (λ (l : ReturnLine). l.at) (answers_always _ _ _ (λ f a r g called. search rules)) in
    let none = searched (λ (l : ReturnLine). l.at) c.args.returns.now c.requires c.args.k (Err c.in-Err.field-0) c.in-Err.ensures.bound by_address in
    none has.line has.listed has.address
