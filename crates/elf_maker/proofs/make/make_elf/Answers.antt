use Rattle.std.proofs.Common.{◌≡◌, rules, subst, sym, arith}
use Rattle.elf_maker.proofs.Sizes.{headers_within, strings_within}
use Rattle.elf_maker.specs.MadeFile.{made_file}
use Rattle.elf_maker.specs.MadeOf.{IsMadeOf}
use Rattle.elf_maker.proofs.Fitting.{AreFit}
use Rattle.elf_maker.proofs.Made.{made-is_made_of}
use Rattle.elf_maker.proofs.make.make_elf.Goals as goal

pub symbol_table-requires : goal.symbol_table-requires
symbol_table-requires c =
    rw c.as_slice.ensures (omega (arith, strings_within c.args.parts.now, c.requires.small))

pub layout_of-layout-requires-clause-fits : goal.layout_of-layout-requires-clause-fits
layout_of-layout-requires-clause-fits c = omega (arith, headers_within c.args.parts.now, c.requires.small)

pub file_size-requires : goal.file_size-requires
file_size-requires c = rw c.layout_of-layout.ensures (omega (arith, headers_within c.args.parts.now, c.requires.small))

-- the file is the made file, and that is made of the parts
pub returns-clause-made : goal.returns-clause-made
unfolding made_file
returns-clause-made c =
    let r = c.requires in
    let fit : AreFit c.args.parts.now = record {
      some_code = r.some_code;
      even_length = r.even_length;
      even_code = r.even_code;
      even_entry = r.even_entry;
      entry_start = r.entry_start;
      entry_end = r.entry_end;
      disjoint = r.disjoint;
      code_end = r.code_end;
      rodata_end = r.rodata_end;
      names = r.names;
      small = r.small;
      addresses = rw (← c.as_slice.ensures) c.in_ok-symbols.ensures.addresses;
    } in
    let bytes : c.put_section_table.new.file.items ≡ made_file c.args.parts.now = search rules in
    subst (λ xs. IsMadeOf c.args.parts.now xs) (sym bytes) (made-is_made_of c.args.parts.now fit)
