use Rattle.std.proofs.Common.{◌∙◌, Some, None, is_none, refl, ap, arith}
use Rattle.elf_symbols.specs.Inner.Symbols.{symbol_of}
use Rattle.elf_symbols.proofs.Strings.{bad_from_search, string-found, a_name}
use Rattle.elf_symbols.proofs.symbol.seed_of.Goals as goal

pub returns-in_err-len-clause-bad : goal.returns-in_err-len-clause-bad
returns-in_err-len-clause-bad c =
    ap is_none c.from_residual.ensures ∙ bad_from_search c.args.image.now c.args.strings.now c.requires c.section_bytes.result.now c.section_bytes.ensures (symbol_of c.args.s.now) None c.in_err-len.ensures

pub returns-then-len-eq0-clause-bad : goal.returns-then-len-eq0-clause-bad
returns-then-len-eq0-clause-bad c =
    bad_from_search c.args.image.now c.args.strings.now c.requires c.section_bytes.result.now c.section_bytes.ensures (symbol_of c.args.s.now) (Some c.in_ok-len.len) c.in_ok-len.ensures

pub returns-else-len-eq0-clause-bad : goal.returns-else-len-eq0-clause-bad
returns-else-len-eq0-clause-bad c =
    bad_from_search c.args.image.now c.args.strings.now c.requires c.section_bytes.result.now c.section_bytes.ensures (symbol_of c.args.s.now) (Some c.in_ok-len.len) c.in_ok-len.ensures

pub returns-else-len-eq0-clause-seed : goal.returns-else-len-eq0-clause-seed
returns-else-len-eq0-clause-seed c =
    let it = string-found c.args.image.now c.args.strings.now c.requires c.section_bytes.result.now c.section_bytes.ensures c.args.s.now.name c.in_ok-len.len c.in_ok-len.ensures in
    record {
      address = refl;
      text = a_name c.args.image.now c.args.strings.now c.requires c.section_bytes.result.now c.section_bytes.ensures c.args.s.now.name c.in_ok-len.len c.in_ok-len.ensures (omega arith);
      lies = omega (arith, it.0, c.requires.within);
    }
