-- Where one instruction alone sends control (RISC-V Unprivileged ISA 20240411, sections 2.5 and
-- 2.8; the link registers x1 and x5 are those of its section 2.5.1, "Return-address stack
-- prediction").
use Rattle.std.specs.Prelude.{ℕ, ◌+◌, ◌-◌, ◌*◌, ◌/◌, ◌%◌, ◌^◌, ◌==◌, ◌&&◌, ◌||◌, nat_le, Bool, true}
use Rattle.std.specs.Prelude.{false, List, ℤ, Option, Some, None, if◌then◌else◌}
use Rattle.std.specs.Option.{option_and_then, option_map}
use Rattle.std.specs.Int.{cast_unsigned, w64}
use Rattle.elf_image.specs.Code.{section_start, word_at}
use Rattle.rv_decode.specs.declared.instructions.Insn.{Insn}
use Rattle.rv_decode.specs.declared.instructions.Insn.TheVariants as insns
use Rattle.rv_decode.specs.declared.instructions.AwayKind.{AwayKind}
use Rattle.rv_decode.specs.declared.instructions.AwayKind.TheVariants as aways
use Rattle.rv_decode.specs.declared.instructions.CsrKind.{CsrKind}
use Rattle.rv_decode.specs.declared.instructions.CsrKind.TheVariants as csrs
use Rattle.rv_decode.specs.Table.{instruction}
use Rattle.rv_flow.specs.declared.raw.RawFlow.{RawFlow}
use Rattle.rv_flow.specs.declared.raw.RawFlow.TheVariants as raw
use Rattle.rv_flow.specs.Placed.{placed_at}

-- An address and a signed offset, modulo 2 to the power 64.
abbrev pub address_plus : ℕ → ℤ → ℕ
address_plus a offset = (a + cast_unsigned w64 offset) % 2 ^ 64

-- ---- pairs: a JALR right after the AUIPC or LUI that sets its register

-- The word right before the instruction at a, if it lies in the same code section.
abbrev pub word_before : List ℕ → ℕ → Option ℕ
word_before bytes a =
    option_and_then (λ start. if nat_le (start + 4) a then word_at bytes (a - 4) else None)
    (section_start bytes a)

-- What an AUIPC at an address, or a LUI, leaves in register r.
abbrev pub upper_of : ℕ → ℕ → Insn → Option ℕ
upper_of at r (insns.Lui rd imm) = if rd == r then Some (cast_unsigned w64 imm) else None
upper_of at r (insns.Auipc rd imm) = if rd == r then Some (address_plus at imm) else None
upper_of at r _ = None

-- What the instruction word right before a leaves in register r, if it is an AUIPC or LUI of it.
abbrev pub upper_before : List ℕ → ℕ → ℕ → Option ℕ
upper_before bytes a r =
    option_and_then (upper_of (a - 4) r) (option_and_then instruction (word_before bytes a))

-- The target of a paired JALR at a: what is in its register, which is not x0, plus the immediate,
-- with bit 0 cleared; none if it is not paired.
abbrev pub pair_target : List ℕ → ℕ → ℕ → ℤ → Option ℕ
pair_target bytes a rs1 imm =
    if rs1 == 0 then None
    else option_map (λ base. address_plus base imm / 2 * 2) (upper_before bytes a rs1)

-- ---- the flow of an instruction alone

-- A JALR through x28 that leaves its address in x6: the entry of a procedure linkage table, or the
-- stub of an indirect function (RISC-V psABI, "Procedure Linkage Table"). x6 is no link register,
-- and control does not come back to the address after it.
abbrev pub is_stub : ℕ → ℕ → Bool
is_stub rd rs1 = (rd == 6) && (rs1 == 28)

-- A JALR that links to x0 jumps, and another calls. Without a pair its target is not known, but a
-- jump through a link register is a return, and a stub jumps.
abbrev pub jalr_flow : ℕ → ℕ → ℤ → Option ℕ → RawFlow
jalr_flow rd rs1 imm (Some target) = if rd == 0 then raw.Jump target else raw.Call target
jalr_flow rd rs1 imm None =
    if rd == 0
    then (if (rs1 == 1) || (rs1 == 5) then raw.Return else raw.RegisterJump rs1 imm)
    else (if is_stub rd rs1 then raw.RegisterJump rs1 imm else raw.IndirectCall)

abbrev pub is_csrrw : CsrKind → Bool
is_csrrw csrs.Csrrw = true
is_csrrw _ = false

-- `unimp`, csrrw x0, cycle, x0: the canonical instruction that stops (this project's profile).
abbrev pub is_unimp : CsrKind → ℕ → ℕ → ℕ → Bool
is_unimp kind rd source csr = is_csrrw kind && (rd == 0) && (source == 0) && (csr == 0xC00)

-- The returns and jumps of Zcmp and Zcmt. No file tells what stands in the table of JVT.
abbrev pub away_flow : AwayKind → RawFlow
away_flow aways.Return = raw.Return
away_flow aways.Unknown = raw.Unknown
away_flow aways.Call = raw.IndirectCall

abbrev pub insn_flow : List ℕ → ℕ → Insn → RawFlow
insn_flow bytes a (insns.Jal rd offset) =
    if rd == 0 then raw.Jump (address_plus a offset) else raw.Call (address_plus a offset)
insn_flow bytes a (insns.Jalr rd rs1 imm) = jalr_flow rd rs1 imm (pair_target bytes a rs1 imm)
insn_flow bytes a (insns.Branch kind rs1 rs2 offset) = raw.Branch (address_plus a offset)
insn_flow bytes a insns.Ebreak = raw.Stop
insn_flow bytes a (insns.Csr kind rd source csr) =
    if is_unimp kind rd source csr then raw.Stop else raw.Straight
insn_flow bytes a (insns.Away kind reads writes) = away_flow kind
insn_flow bytes a _ = raw.Straight

-- What is no instruction stops.
abbrev pub raw_flow_by : List ℕ → ℕ → Option Insn → RawFlow
raw_flow_by bytes a None = raw.Stop
raw_flow_by bytes a (Some insn) = insn_flow bytes a insn

-- The flow of the instruction at a code address.
abbrev pub raw_flow_at : List ℕ → ℕ → RawFlow
raw_flow_at bytes a = raw_flow_by bytes a (placed_at bytes a).insn
