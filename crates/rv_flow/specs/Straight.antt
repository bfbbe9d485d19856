-- Instructions after which control goes straight on (RISC-V Unprivileged ISA 20240411, sections 2.5
-- and 2.8).
use Rattle.std.specs.Prelude.{◌≡◌, ℕ, List, Option, Some, None}
use Rattle.elf_image.specs.declared.extensions.Extensions.{Extensions}
use Rattle.elf_image.specs.Architecture.{extensions_of}
use Rattle.elf_image.specs.Code.{half_at, word_at}
use Rattle.rv_flow.specs.declared.raw.RawFlow.{RawFlow}
use Rattle.rv_flow.specs.declared.raw.RawFlow.TheVariants.{Straight}
use Rattle.rv_flow.specs.Placed.{placed_at}
use Rattle.rv_flow.specs.Raw.{raw_flow_at}

-- The length of an instruction that alone has this flow, if that is straight.
abbrev pub length_where_straight : RawFlow → ℕ → Option ℕ
length_where_straight Straight length = Some length
length_where_straight _ length = None

-- The length of the instruction at a code address, if control goes straight on after it.
abbrev pub straight_length_at : List ℕ → ℕ → Option ℕ
straight_length_at bytes a = length_where_straight (raw_flow_at bytes a) (placed_at bytes a).length

-- An answer for bytes that begin with a halfword, and for their word if all four are there, is that
-- of each code address where these bytes stand, of each file that names these extensions.
abbrev pub IsStraightLength : Extensions → ℕ → Option ℕ → Option ℕ → Type 0
IsStraightLength e half word answer =
    (bytes : List ℕ) (a : ℕ) → extensions_of bytes ≡ e → half_at bytes a ≡ Some half
    → word_at bytes a ≡ word → straight_length_at bytes a ≡ answer
