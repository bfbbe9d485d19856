use Rattle.std.proofs.Common.{◌∙◌, ap}
use Rattle.jump_table.specs.Values.{Registers, written}
use Rattle.jump_table.specs.declared.values.Value.TheVariants.{Index}
use Rattle.jump_table.proofs.Writes.{written-forgotten}
use Rattle.jump_table.proofs.values.Registers.at_test.Goals as goal

pub returns : goal.returns
returns c =
    c.set.ensures ∙ ap (λ (before : Registers). written before c.args.index Index) c.unknown-registers.ensures ∙ written-forgotten c.args.index
