use Rattle.std.proofs.Common.{◌≡◌, ◌∙◌, rules, sym, ap, subst, get_or, List, Ok, Err}
use Rattle.std.specs.List.Sorted.{IsNonDecreasingBy}
use Rattle.std.proofs.lemmas.List.Sorted.{answers_always}
use Rattle.code_view.specs.declared.table_jump.TableJump.{TableJump}
use Rattle.code_view.specs.Tables.{AreAllTables}
use Rattle.code_view.proofs.Sought.{sought, table-found, table-missing}
use Rattle.code_view.proofs.tables.AllTables.table.Goals as goal

pub returns-in-Ok : goal.returns-in-Ok
returns-in-Ok c = λ bytes all.
    let jumps : List TableJump = c.self.inside.jumps.items in
    let slice : c.deref.result.now ≡ jumps = c.deref.ensures.value in
    let by_jump = c.in-Ok.ensures.position (λ (f : TableJump). f.jump) (answers_always _ _ _ (λ f a r g called. search rules)) in
    let at = sought c.deref.result.now (subst (IsNonDecreasingBy (λ (f : TableJump). f.jump)) (sym slice) c.self.invariant) c.args.j (Ok c.in-Ok.i) c.in-Ok.ensures.bound by_jump in
    table-found bytes c.deref.result.now (subst (AreAllTables bytes) (sym (slice ∙ c.self.view_is)) all) c.args.j c.in-Ok.i c.index.result.now at.0
    (c.index.ensures ∙ ap (λ (js : List TableJump). get_or js c.in-Ok.i c.index.result.now) (sym slice)) (at.1 c.index.result.now)

pub returns-in-Err : goal.returns-in-Err
returns-in-Err c = λ bytes all.
    let jumps : List TableJump = c.self.inside.jumps.items in
    let slice : c.deref.result.now ≡ jumps = c.deref.ensures.value in
    let by_jump = c.in-Err.ensures.position (λ (f : TableJump). f.jump) (answers_always _ _ _ (λ f a r g called. search rules)) in
    let none = sought c.deref.result.now (subst (IsNonDecreasingBy (λ (f : TableJump). f.jump)) (sym slice) c.self.invariant) c.args.j (Err c.in-Err.field-0) c.in-Err.ensures.bound by_jump in
    table-missing bytes c.deref.result.now (subst (AreAllTables bytes) (sym (slice ∙ c.self.view_is)) all) c.args.j none
