use Rattle.std.proofs.Common.{◌≡◌, ◌<◌, ◌∙◌, true, Some, sym, ap, arith}
use Rattle.std.proofs.lemmas.Bool.{eq-eqb}
use Rattle.elf_image.specs.Header.{section_count}
use Rattle.elf_image.specs.Sections.{section, is_symbol_table}
use Rattle.elf_symbols.proofs.Tables.{first_at, no_table}
use Rattle.elf_symbols.proofs.table.first_table.Goals as goal

pub returns-then-section-eq-SHT_SYMTAB-clause-first : goal.returns-then-section-eq-SHT_SYMTAB-clause-first
returns-then-section-eq-SHT_SYMTAB-clause-first c =
    let bytes = c.args.image.now in
    let within : c.loop-i.i < section_count bytes = omega arith in
    let here : is_symbol_table (section bytes c.loop-i.i) ≡ true = ap is_symbol_table (sym c.section-section.ensures.section) ∙ eq-eqb _ 2 c.if-section-eq-SHT_SYMTAB.true in
    ap Some c.section-section.ensures.section ∙ sym (first_at bytes c.loop-i.i within c.loop-i.invariant here)

pub returns-clause-first : goal.returns-clause-first
returns-clause-first c =
    sym (no_table c.args.image.now c.loop-i.i (omega arith) c.loop-i.invariant)
