use Rattle.std.proofs.Common.{◌∙◌, ap, sym, subst, cond, is_some}
use Rattle.rv_flow.specs.InsnBytes.{AreBytesAt}
use Rattle.code_view.specs.FileCode.{FileCode}
use Rattle.code_view.proofs.EndLengths.{jump-length}
use Rattle.code_view.proofs.Views.{lawful-view}
use Rattle.code_view.proofs.code.Code.told_length.Goals as goal

pub returns-then-is_jump_word-clause-length : goal.returns-then-is_jump_word-clause-length
returns-then-is_jump_word-clause-length c =
    let bytes = c.args.self.now.bytes in
    let read = c.bytes_at-read.result in
    let file = c.self.invariant.index ∙ ap (λ (f : FileCode). f.bytes) c.self.view_is in
    let are = subst (λ b. AreBytesAt b c.args.a read) file c.bytes_at-read.ensures in
    c.jump_length.ensures
    ∙ ap (λ o. cond (is_some o) 4 2) (sym are.word)
    ∙ sym (jump-length bytes c.args.a read.half are.half (sym c.is_jump_word.ensures ∙ c.if-is_jump_word.true))

pub returns-then-read-ne3-clause-lawful : goal.returns-then-read-ne3-clause-lawful
returns-then-read-ne3-clause-lawful c = lawful-view _ _ c.self.invariant.accepted c.self.invariant.cuts _ c.self.view_is

pub returns-then-is_jump_word-clause-lawful : goal.returns-then-is_jump_word-clause-lawful
returns-then-is_jump_word-clause-lawful c = lawful-view _ _ c.self.invariant.accepted c.self.invariant.cuts _ c.self.view_is

pub returns-else-is_jump_word-clause-lawful : goal.returns-else-is_jump_word-clause-lawful
returns-else-is_jump_word-clause-lawful c = lawful-view _ _ c.self.invariant.accepted c.self.invariant.cuts _ c.self.view_is
