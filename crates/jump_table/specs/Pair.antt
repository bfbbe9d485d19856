-- The addresses that pairs of instructions set before a run (this project's profile).
use Rattle.std.specs.Prelude.{ℕ, ◌==◌, ◌&&◌, not, List, ℤ, Option, Some, None, if◌then◌else◌}
use Rattle.std.specs.Int.{cast_unsigned, w64}
use Rattle.std.specs.Option.{option_map, option_and_then}
use Rattle.rv_decode.specs.declared.instructions.Insn.{Insn}
use Rattle.rv_decode.specs.declared.instructions.Insn.TheVariants as insns
use Rattle.rv_decode.specs.declared.instructions.ImmKind.{ImmKind}
use Rattle.rv_decode.specs.declared.instructions.ImmKind.TheVariants as imms
use Rattle.rv_decode.specs.declared.instructions.StoreKind.{StoreKind}
use Rattle.rv_decode.specs.declared.instructions.StoreKind.TheVariants as stores
use Rattle.rv_flow.specs.Raw.{address_plus}
use Rattle.jump_table.specs.declared.pair.Origin.{Origin}
use Rattle.jump_table.specs.declared.pair.Origin.TheVariants.{Register, Slot}
use Rattle.jump_table.specs.Nearest.{evens, nearest}
use Rattle.jump_table.specs.Section.{whole_insn_at, insn_before}

-- ---- pairs

-- What `lui x` and `auipc x` at h set x to.
abbrev pub upper_by : ℕ → ℕ → Insn → Option ℕ
upper_by x h (insns.Lui rd imm) = if rd == x then Some (cast_unsigned w64 imm) else None
upper_by x h (insns.Auipc rd imm) = if rd == x then Some (address_plus h imm) else None
upper_by x h _ = None

-- The first half of a pair at a: what such an instruction at h sets x to, if it ends at or before a.
abbrev pub upper_at : List ℕ → ℕ → ℕ → ℕ → ℕ → Option ℕ
upper_at bytes start a x h = option_and_then (upper_by x h) (insn_before bytes start a h)

-- The nearest one counts, 2 to 64 bytes before a.
unfoldable pub upper_before : List ℕ → ℕ → ℕ → ℕ → Option ℕ
upper_before bytes start a x = nearest (upper_at bytes start a x) start a (evens 2 32)

-- The second half: `addi r, x, low` at a, with x other than x0. It adds low to the first.
abbrev pub lower_by : List ℕ → ℕ → ℕ → ℕ → ImmKind → ℕ → ℕ → ℤ → Option ℕ
lower_by bytes start r a imms.Addi rd rs1 imm =
    if (rd == r) && not (rs1 == 0)
    then option_map (λ upper. address_plus upper imm) (upper_before bytes start a rs1)
    else None
lower_by bytes start r a _ rd rs1 imm = None

abbrev pub pair_by : List ℕ → ℕ → ℕ → ℕ → Insn → Option ℕ
pair_by bytes start r a (insns.Imm kind rd rs1 imm) = lower_by bytes start r a kind rd rs1 imm
pair_by bytes start r a _ = None

-- The value of the pair of register r at a, if one stands there: its second half is a 32-bit
-- instruction. Nothing is asked of what stands between the halves.
abbrev pub pair_at : List ℕ → ℕ → ℕ → ℕ → Option ℕ
pair_at bytes start r a = option_and_then (pair_by bytes start r a) (whole_insn_at bytes start a)

-- The value of the pair of r nearest to q, 4 to 4,096 bytes before it.
unfoldable pub pair_before : List ℕ → ℕ → ℕ → ℕ → Option ℕ
pair_before bytes start q r = nearest (pair_at bytes start r) start q (evens 4 2047)

-- ---- slots of the stack, each by its distance n from x2, modulo 2 to the power 64

-- The register that `sd x, n(x2)` stores, if it is not x0.
abbrev pub spilled_by : ℕ → StoreKind → ℕ → ℕ → ℤ → Option ℕ
spilled_by n stores.Sd rs1 rs2 imm =
    if (rs1 == 2) && (cast_unsigned w64 imm == n) && not (rs2 == 0) then Some rs2 else None
spilled_by n _ rs1 rs2 imm = None

abbrev pub register_spilled : ℕ → Insn → Option ℕ
register_spilled n (insns.Store kind rs1 rs2 imm) = spilled_by n kind rs1 rs2 imm
register_spilled n _ = None

-- The value of the pair of x nearest to a store at a, 4 to 64 bytes before it.
unfoldable pub pair_near : List ℕ → ℕ → ℕ → ℕ → Option ℕ
pair_near bytes start a x = nearest (pair_at bytes start x) start a (evens 4 31)

-- The value that a store at a puts into slot n, if it ends at or before q and a pair sets it.
abbrev pub spill_at : List ℕ → ℕ → ℕ → ℕ → ℕ → Option ℕ
spill_at bytes start q n a =
    option_and_then (pair_near bytes start a)
    (option_and_then (register_spilled n) (insn_before bytes start q a))

-- The nearest such store counts, 2 to 4,096 bytes before q. One of no pair is passed over.
unfoldable pub spilled_before : List ℕ → ℕ → ℕ → ℕ → Option ℕ
spilled_before bytes start q n = nearest (spill_at bytes start q n) start q (evens 2 2048)

-- ---- either

-- What a register or a slot holds at q by the nearest pair or store. This is a guess: what else
-- writes it is not looked at.
abbrev pub origin_value : List ℕ → ℕ → ℕ → Origin → Option ℕ
origin_value bytes start q (Register r) = pair_before bytes start q r
origin_value bytes start q (Slot n) = spilled_before bytes start q n
