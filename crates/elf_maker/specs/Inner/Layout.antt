-- What the writing of a file keeps of its layout. No public clause names what stands here.
use Rattle.std.specs.Prelude.{length}
use Rattle.elf_maker.specs.declared.parts.Parts.{Parts}
use Rattle.elf_maker.specs.declared.section.Layout.{Layout}
use Rattle.elf_maker.specs.Symbols.{symbol_table, string_table}
use Rattle.elf_maker.specs.Sections.{rodata_place, symbols_place, strings_place, headers_place}

-- where the parts stand, and the sizes of the two tables
abbrev pub layout_of : Parts → Layout
layout_of parts = record {
  rodata = rodata_place parts;
  symbols = symbols_place parts;
  symbols_size = length (symbol_table parts.symbols);
  strings = strings_place parts;
  strings_size = length (string_table parts.symbols);
  headers = headers_place parts;
}
