use Rattle.std.proofs.Common.{◌≡◌, map}
use Rattle.rv_machine.specs.Inner.Extents.{section_extent}
use Rattle.rv_machine.proofs.FileParts.{first_loaded}
use Rattle.rv_machine.proofs.regions.extents_of.Given as goal

-- the ranges are those of the sections so far
abbrev pub invariant-loop-i : goal.invariant-loop-i
invariant-loop-i l = l.extents.items ≡ map section_extent (first_loaded l.image l.i)
