-- Pointers by their encodings (LSB Core, "DWARF Exception Header Encoding").
use Rattle.std.specs.Prelude.{ℕ, ◌+◌, ◌/◌, ◌%◌, ◌^◌, ◌==◌, if◌then◌else◌}
use Rattle.std.specs.Option.{option_map}
use Rattle.std.specs.declared.option.Option.{Option}
use Rattle.std.specs.declared.option.Option.TheVariants.{None}
use Rattle.landing_pads.specs.Place.{Place}
use Rattle.landing_pads.specs.Number.{number}

-- a number that counts from an address; 0 stays 0
abbrev pub relative : ℕ → ℕ → ℕ
relative here n = if n == 0 then 0 else (here + n) % 2 ^ 64

-- the pointer at a place, by the high four bits of an encoding: the number itself (DW_EH_PE_absptr),
-- or from its first byte on (DW_EH_PE_pcrel). Every other says nothing.
unfoldable pub pointer : ℕ → Place → Option (ℕ × Place)
pointer encoding p =
    let form = encoding / 16 in
    if form == 0 then number encoding p
    else (if form == 1 then option_map (λ r. (relative p.address r.0, r.1)) (number encoding p)
    else None)
