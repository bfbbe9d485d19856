use Rattle.std.proofs.Common.{sym, ◌∙◌}
use Rattle.std.proofs.lemmas.Bool.{false≢true}
use Rattle.outline_funcs.proofs.Marks.{marks_tail, marks_none}
use Rattle.outline_funcs.proofs.tails.mark_tail.Goals as goal

pub returns-then-is_tail : goal.returns-then-is_tail
returns-then-is_tail c =
    marks_tail c.args.functions.now c.args.i c.args.edges.now c.set_kind.new.self c.as_slice.result.now _ c.requires.within
    c.as_slice.ensures (c.is_tail.ensures.0 c.if-is_tail.true) c.set_kind.ensures

pub returns-else-is_tail : goal.returns-else-is_tail
returns-else-is_tail c =
    marks_none c.args.functions.now c.args.i c.args.edges.now c.as_slice.result.now _ c.requires.within c.as_slice.ensures
    (λ t. false≢true (sym c.if-is_tail.false ∙ c.is_tail.ensures.1 t))
