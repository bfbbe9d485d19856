use Rattle.std.proofs.Common.{◌∙◌, sym}
use Rattle.elf_image.proofs.FirstFault.{first_of_file, first_of_section, first_of_code, first-from_image, table_fits, range_fits, long_enough}
use Rattle.elf_image.proofs.layout.judge.Goals as goal

pub returns-in-Some-clause-malformed : goal.returns-in-Some-clause-malformed
returns-in-Some-clause-malformed c = first_of_file c.args.bytes.now c.in-Some.fault (sym c.file_fault.ensures ∙ c.in-Some.is)

pub read_sections-requires-clause-header : goal.read_sections-requires-clause-header
read_sections-requires-clause-header c = long_enough c.args.bytes.now (sym c.file_fault.ensures ∙ c.in_default.is)

pub read_sections-requires-clause-table : goal.read_sections-requires-clause-table
read_sections-requires-clause-table c = table_fits c.args.bytes.now (sym c.file_fault.ensures ∙ c.in_default.is)

pub returns-in-Some-section_fault-clause-malformed : goal.returns-in-Some-section_fault-clause-malformed
returns-in-Some-section_fault-clause-malformed c =
    first_of_section c.args.bytes.now c.in-Some-section_fault.fault (sym c.file_fault.ensures ∙ c.in_default.is)
    (sym c.section_fault.ensures ∙ c.in-Some-section_fault.is)

pub code_fault-requires-clause-header : goal.code_fault-requires-clause-header
code_fault-requires-clause-header c = long_enough c.args.bytes.now (sym c.file_fault.ensures ∙ c.in_default.is)

pub returns-in-Some-code_fault-clause-malformed : goal.returns-in-Some-code_fault-clause-malformed
returns-in-Some-code_fault-clause-malformed c =
    first_of_code c.args.bytes.now (sym c.file_fault.ensures ∙ c.in_default.is) (sym c.section_fault.ensures ∙ c.in_default-section_fault.is)
    ∙ sym c.code_fault.ensures ∙ c.in-Some-code_fault.is

pub returns-in-Some-clause-first : goal.returns-in-Some-clause-first
returns-in-Some-clause-first c = first-from_image c.args.bytes.now c.in-Some.fault (returns-in-Some-clause-malformed c)

pub returns-in-Some-section_fault-clause-first : goal.returns-in-Some-section_fault-clause-first
returns-in-Some-section_fault-clause-first c =
    first-from_image c.args.bytes.now c.in-Some-section_fault.fault (returns-in-Some-section_fault-clause-malformed c)

pub returns-in-Some-code_fault-clause-first : goal.returns-in-Some-code_fault-clause-first
returns-in-Some-code_fault-clause-first c =
    first-from_image c.args.bytes.now c.in-Some-code_fault.fault (returns-in-Some-code_fault-clause-malformed c)

pub returns-clause-image : goal.returns-clause-image
returns-clause-image c =
    first_of_code c.args.bytes.now (sym c.file_fault.ensures ∙ c.in_default.is) (sym c.section_fault.ensures ∙ c.in_default-section_fault.is)
    ∙ sym c.code_fault.ensures ∙ c.in_default-code_fault.is

pub tables_by_jump-requires-clause-in_file : goal.tables_by_jump-requires-clause-in_file
tables_by_jump-requires-clause-in_file c =
    range_fits c.args.bytes.now (sym c.section_fault.ensures ∙ c.in_default-section_fault.is)

pub extensions_of-extensions-requires-clause-in_file : goal.extensions_of-extensions-requires-clause-in_file
extensions_of-extensions-requires-clause-in_file c =
    range_fits c.args.bytes.now (sym c.section_fault.ensures ∙ c.in_default-section_fault.is)
