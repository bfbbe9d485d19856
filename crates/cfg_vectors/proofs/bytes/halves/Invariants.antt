use Rattle.std.proofs.Common.{◌≡◌, take}
use Rattle.std.specs.List.{flat_map}
use Rattle.byteorder.specs.Endian.{little_bytes}
use Rattle.cfg_vectors.proofs.bytes.halves.Given as goal

-- the bytes of those up to here
abbrev pub invariant-loop-parcel : goal.invariant-loop-parcel
invariant-loop-parcel l = l.bytes.items ≡ flat_map (little_bytes 2) (take l.parcel-index l.parcels)
