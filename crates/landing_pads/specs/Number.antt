-- Numbers by their encodings (LSB Core, "DWARF Exception Header Encoding"). They are modulo 2^64.
use Rattle.std.specs.Prelude.{ℕ, ◌+◌, ◌-◌, ◌*◌, ◌%◌, ◌^◌, ◌==◌, ◌||◌, nat_lt, List, [], ◌∷◌}
use Rattle.std.specs.Prelude.{if◌then◌else◌}
use Rattle.std.specs.Option.{option_map}
use Rattle.std.specs.declared.option.Option.{Option}
use Rattle.std.specs.declared.option.Option.TheVariants.{None, Some}
use Rattle.elf_image.specs.Number.{u16_at, u32_at, u64_at}
use Rattle.elf_image.specs.Attributes.{Leb}
use Rattle.landing_pads.specs.Place.{Place, after, fixed}

-- a number of seven bits a byte, the least significant first, up to the first byte below 128, which
-- counts as `last` says (DWARF 5, "Variable Length Data")
abbrev pub leb128 : (ℕ → ℕ) → List ℕ → Option Leb
leb128 last [] = None
leb128 last (b ∷ bs) =
    if nat_lt b 128
    then Some (record { value = last b; size = 1 })
    else option_map
    (λ high. record { value = (b % 128 + 128 * high.value) % 2 ^ 64; size = high.size + 1 })
    (leb128 last bs)

abbrev pub leb_at : (ℕ → ℕ) → Place → Option (ℕ × Place)
leb_at last p = option_map (λ n. (n.value, after n.size p)) (leb128 last p.bytes)

-- the number x of n bits, its highest one the sign
abbrev pub extended : ℕ → ℕ → ℕ
extended n x = if nat_lt x (2 ^ (n - 1)) then x else x + (2 ^ 64 - 2 ^ n)

-- ULEB128 and SLEB128
unfoldable pub uleb128 : Place → Option (ℕ × Place)
uleb128 p = leb_at (λ b. b) p

unfoldable pub sleb128 : Place → Option (ℕ × Place)
sleb128 p = leb_at (extended 7) p

-- a number of n bytes with a sign
abbrev pub signed : ℕ → (List ℕ → ℕ → ℕ) → Place → Option (ℕ × Place)
signed n read p = option_map (λ r. (extended (8 * n) r.0, r.1)) (fixed n read p)

-- the number at a place, by the low four bits of an encoding: DW_EH_PE_absptr, uleb128, udata2,
-- udata4, udata8, sleb128, sdata2, sdata4, sdata8. Both of eight bytes are the same, modulo 2^64.
unfoldable pub number : ℕ → Place → Option (ℕ × Place)
number encoding p =
    let form = encoding % 16 in
    if form == 0 || form == 4 || form == 12 then fixed 8 u64_at p
    else (if form == 1 then uleb128 p
    else (if form == 2 then fixed 2 u16_at p
    else (if form == 3 then fixed 4 u32_at p
    else (if form == 9 then sleb128 p
    else (if form == 10 then signed 2 u16_at p
    else (if form == 11 then signed 4 u32_at p
    else None))))))
