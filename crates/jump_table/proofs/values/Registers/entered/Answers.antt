use Rattle.std.proofs.Common.{◌≡◌, ◌∙◌, sym, ap, arith}
use Rattle.jump_table.specs.Values.{Registers, written}
use Rattle.jump_table.specs.declared.pair.Origin.TheVariants.{Register}
use Rattle.jump_table.specs.declared.values.Value.TheVariants.{Far}
use Rattle.jump_table.proofs.Writes.{entered_below, entered-none, entered-more, entered-all}
use Rattle.jump_table.proofs.values.Registers.entered.Goals as goal

pub loop-r-init : goal.loop-r-init
loop-r-init c = c.unknown-registers.ensures ∙ entered-none

pub loop-r-preserved : goal.loop-r-preserved
loop-r-preserved c =
    c.set.ensures ∙ ap (λ (before : Registers). written before c.loop-r.r (Far (Register c.loop-r.r))) c.loop-r.invariant ∙ entered-more c.loop-r.r

pub returns : goal.returns
returns c = c.loop-r.invariant ∙ entered-all c.loop-r.r (omega arith)
