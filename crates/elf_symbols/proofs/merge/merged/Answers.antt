use Rattle.std.proofs.Common.{◌<◌, length, take, sym, subst, arith}
use Rattle.std.proofs.lemmas.List.{take_more}
use Rattle.elf_symbols.specs.Inner.Merged.{AreMerged}
use Rattle.elf_symbols.proofs.MergeStep.{before-at}
use Rattle.elf_symbols.proofs.merge.merged.Goals as goal

pub loop-seed-preserved : goal.loop-seed-preserved
loop-seed-preserved c =
    let i = c.loop-seed.seed-index in
    let sorted = c.args.sorted.now in
    let within : i < length sorted = omega arith in
    subst (λ xs. AreMerged c.args.image.now xs c.add.new.merged.items) (sym (take_more sorted i _ within))
    (c.in_ok-add.ensures (take i sorted) c.loop-seed.invariant (before-at sorted i _ c.requires.sorted within))
