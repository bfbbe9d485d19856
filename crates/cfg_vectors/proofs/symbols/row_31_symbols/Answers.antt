use Rattle.std.proofs.Common.{◌∙◌, ◌∷◌, [], ◌++◌, ap, sym}
use Rattle.elf_maker.specs.declared.parts.MadeSymbol.{MadeSymbol}
use Rattle.cfg_vectors.specs.Rows.{each_halfword}
use Rattle.cfg_vectors.proofs.Halfwords.{one_more}
use Rattle.cfg_vectors.proofs.symbols.row_31_symbols.Goals as goal

pub loop-i-preserved : goal.loop-i-preserved
loop-i-preserved c =
    c.in_ok-push.ensures.items
    ∙ ap (λ xs. xs ++ c.in_ok-symbol.field-0 ∷ []) c.loop-i.invariant
    ∙ ap (λ (s : MadeSymbol). each_halfword 0x10000 c.loop-i.i ++ s ∷ []) c.in_ok-symbol.ensures
    ∙ sym (one_more 0x10000 c.loop-i.i)
