use Rattle.std.proofs.Common.{◌-◌, length}
use Rattle.elf_image.specs.Seeds.{seed_name}
use Rattle.graph_report.specs.declared.page.TheConstants.{PIECE}
use Rattle.graph_report.specs.Inner.{functions_left}
use Rattle.graph_report.proofs.Filling.{Moves}
use Rattle.graph_report.proofs.left.FunctionsLeft.fill.Given as goal

abbrev pub invariant-loop-self : goal.invariant-loop-self
invariant-loop-self l = Moves l.fn.page (functions_left (seed_name l.names) l.fn.self) l.page (functions_left (seed_name l.names) l.self)

abbrev pub decreases-loop-self : goal.decreases-loop-self
decreases-loop-self l = PIECE - length l.page
