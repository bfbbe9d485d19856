-- The pattern of a jump table is read within the code section of its jump.
use Rattle.std.specs.Prelude.{ℕ, ◌+◌, ◌==◌, ◌&&◌, nat_le, Bool, true, false, List, []}
use Rattle.std.specs.Prelude.{◌∷◌, zero, suc, Option, Some, None, if◌then◌else◌}
use Rattle.std.specs.Option.{option_map, option_map_or, option_and_then}
use Rattle.elf_image.specs.Code.{section_start, word_at}
use Rattle.rv_decode.specs.declared.instructions.Insn.{Insn}
use Rattle.rv_decode.specs.Table.{instruction}
use Rattle.rv_flow.specs.declared.raw.RawFlow.{RawFlow}
use Rattle.rv_flow.specs.declared.raw.RawFlow.TheVariants as raw
use Rattle.rv_flow.specs.Placed.{placed_at}
use Rattle.rv_flow.specs.Raw.{raw_flow_at}

-- a lies in the code section that starts here
abbrev pub is_in_section : List ℕ → ℕ → ℕ → Bool
is_in_section bytes start a = option_map_or (λ s. s == start) (section_start bytes a) false

-- The 32-bit instruction that the word at a is, within the section.
abbrev pub whole_insn_at : List ℕ → ℕ → ℕ → Option Insn
whole_insn_at bytes start a =
    if is_in_section bytes start a then option_and_then instruction (word_at bytes a) else None

-- The instruction at a, within the section, if it ends at or before this address.
abbrev pub insn_before : List ℕ → ℕ → ℕ → ℕ → Option Insn
insn_before bytes start end a =
    if is_in_section bytes start a && nat_le (a + (placed_at bytes a).length) end
    then (placed_at bytes a).insn
    else None

abbrev pub is_straight : RawFlow → Bool
is_straight raw.Straight = true
is_straight _ = false

-- a lies in the section, and the instruction there goes straight on.
abbrev pub goes_on : List ℕ → ℕ → ℕ → Bool
goes_on bytes start a = is_in_section bytes start a && is_straight (raw_flow_at bytes a)

-- The straight instructions from a up to, and without, j: their addresses, at most n of them.
unfoldable pub straight_run : List ℕ → ℕ → ℕ → ℕ → ℕ → Option (List ℕ)
straight_run bytes start j zero a = if a == j then Some [] else None
straight_run bytes start j (suc n) a =
    if a == j
    then Some []
    else (if goes_on bytes start a
    then option_map (λ run. a ∷ run) (straight_run bytes start j n (a + (placed_at bytes a).length))
    else None)
