use Rattle.std.proofs.Common.{◌+◌, ◌∙◌, refl, sym, ap, subst, arith}
use Rattle.elf_image.specs.Symbols as spec
use Rattle.elf_image.specs.FaultTests.{is_bad_name}
use Rattle.elf_symbols.specs.Inner.Symbols.{symbol_of}
use Rattle.elf_symbols.proofs.Pass.{Passed, read-skip, read-push, all-good, one-bad, all-each}
use Rattle.elf_symbols.proofs.symbol.table_seeds.Goals as goal
use Rattle.elf_symbols.proofs.symbol.table_seeds.Goals.{then-is_seed_symbol+in-Some+in_ok-push, else-is_seed_symbol}

pub returns-in_default-clause-bad : goal.returns-in_default-clause-bad
returns-in_default-clause-bad c =
    let bytes = c.args.image.now in
    let table = c.args.table.now in
    let is = sym c.read_symbol-symbol.ensures in (
      refl,
      one-bad bytes table.symbols table.strings c.requires.strings _ refl c.loop-i.i (omega arith)
          (ap (spec.is_seed_symbol bytes) is ∙ sym c.is_seed_symbol.ensures ∙ c.if-is_seed_symbol.true)
          (ap (is_bad_name (spec.section_bytes bytes table.strings) table.strings.size) is ∙ sym c.in_default.ensures.bad),
    )

pub loop-i-preserved : goal.loop-i-preserved
loop-i-preserved c =
    let bytes = c.args.image.now in
    let table = c.args.table.now in
    let s = symbol_of c.read_symbol-symbol.result in
    elim c.if-is_seed_symbol.branch [
      | then-is_seed_symbol+in-Some+in_ok-push w ↦
          subst (λ v. Passed bytes table.symbols table.strings (c.loop-i.i + 1) v.items) (sym w.seeds-is)
          (subst (Passed bytes table.symbols table.strings (c.loop-i.i + 1)) (sym w.in_ok-push.ensures.items)
          (read-push bytes table.symbols table.strings c.loop-i.i c.loop-i.seeds.items s w.in-Some.seed c.read_symbol-symbol.ensures c.loop-i.invariant (sym c.is_seed_symbol.ensures ∙ w.if-is_seed_symbol.true) (sym w.in-Some.ensures.bad) w.in-Some.ensures.seed))
      | else-is_seed_symbol w ↦
          subst (λ v. Passed bytes table.symbols table.strings (c.loop-i.i + 1) v.items) (sym w.seeds-is)
          (read-skip bytes table.symbols table.strings c.loop-i.i c.loop-i.seeds.items s c.read_symbol-symbol.ensures c.loop-i.invariant (sym c.is_seed_symbol.ensures ∙ w.if-is_seed_symbol.false))
    ]

pub returns-clause-seeds : goal.returns-clause-seeds
returns-clause-seeds c =
    all-each c.args.image.now c.args.table.now.symbols c.args.table.now.strings c.requires.strings c.loop-i.i (omega arith) c.loop-i.seeds.items c.loop-i.invariant

pub returns-clause-good : goal.returns-clause-good
returns-clause-good c =
    all-good c.args.image.now c.args.table.now.symbols c.args.table.now.strings c.requires.strings c.loop-i.i (omega arith) c.loop-i.seeds.items c.loop-i.invariant
