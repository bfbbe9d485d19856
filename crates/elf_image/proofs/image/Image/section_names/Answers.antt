use Rattle.std.proofs.Common.{◌≡◌, ◌+◌, ◌-◌, ◌∙◌, sym, ap, ap₂, take, drop, arith}
use Rattle.elf_image.proofs.SectionNames.{names-past, names-other, names-there}
use Rattle.elf_image.proofs.image.Image.section_names.Goals as goal

pub returns-then-index-section_count : goal.returns-then-index-section_count
returns-then-index-section_count c =
    names-past c.args.self.now c.names_index-index.result c.section_count.result c.names_index-index.ensures c.section_count.ensures.count c.if-index-section_count.true

pub returns-then-not-is_string_table : goal.returns-then-not-is_string_table
returns-then-not-is_string_table c =
    names-other c.args.self.now c.names_index-index.result c.section_count.result c.names_index-index.ensures c.section_count.ensures.count c.if-index-section_count.false
    c.section-names.result c.section-names.ensures.section (sym c.is_string_table.ensures ∙ c.if-not-is_string_table.true)

pub returns : goal.returns
returns c =
    let s = c.section-names.result in
    let size : s.offset + s.size - s.offset ≡ s.size = omega arith in
    ap₂ (λ n bytes. take n (drop s.offset bytes)) size (c.deref.ensures.value ∙ c.self.view_is)
    ∙ names-there c.args.self.now c.names_index-index.result c.section_count.result c.names_index-index.ensures c.section_count.ensures.count c.if-index-section_count.false
    s c.section-names.ensures.section (sym c.is_string_table.ensures ∙ c.if-not-is_string_table.false)
