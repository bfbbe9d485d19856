use Rattle.std.proofs.Common.{◌≡◌, take}
use Rattle.std.specs.List.{flat_map}
use Rattle.byteorder.specs.Endian.{little_bytes}
use Rattle.cfg_vectors.proofs.bytes.words.Given as goal

-- the bytes of those up to here
abbrev pub invariant-loop-number : goal.invariant-loop-number
invariant-loop-number l = l.bytes.items ≡ flat_map (little_bytes 4) (take l.number-index l.numbers)
