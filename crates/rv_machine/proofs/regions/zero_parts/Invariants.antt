use Rattle.std.proofs.Common.{◌≡◌, map, take}
use Rattle.rv_machine.specs.Inner.Parts.{part_bytes}
use Rattle.rv_machine.specs.Inner.Extents.{extent_of, zero_bytes}
use Rattle.rv_machine.proofs.regions.zero_parts.Given as goal

-- the first ranges have their zeros
abbrev pub invariant-loop-i : goal.invariant-loop-i
invariant-loop-i l = record {
  extents : map extent_of l.parts.items ≡ take l.i l.extents;
  bytes : map part_bytes l.parts.items ≡ map zero_bytes (take l.i l.extents);
}
