use Rattle.std.proofs.Common.{take}
use Rattle.std.specs.List.{AllZip}
use Rattle.outline_funcs.specs.Inner.Blocks.{IsNumber}
use Rattle.outline_funcs.proofs.bodies.starts_of.Given as goal

abbrev pub invariant-loop-i : goal.invariant-loop-i
invariant-loop-i l = AllZip (IsNumber l.blocks) (take l.i-index l.numbers) l.starts.items
