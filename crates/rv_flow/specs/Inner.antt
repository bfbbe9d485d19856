-- Words that no public clause cites.
use Rattle.std.specs.Prelude.{◌≡◌, ℕ, ◌==◌, ◌||◌, not, Bool, true, false, List, get_or}
use Rattle.std.specs.Prelude.{Option, Some, None, ℤ, if◌then◌else◌}
use Rattle.elf_image.specs.declared.extensions.Extensions.{Extensions}
use Rattle.rv_decode.specs.Fields.{opcode}
use Rattle.rv_decode.specs.declared.instructions.Insn.{Insn}
use Rattle.rv_decode.specs.declared.instructions.Insn.TheVariants as insns
use Rattle.rv_flow.specs.declared.straight.ShortForm.{ShortForm}
use Rattle.rv_flow.specs.declared.straight.ShortForm.TheVariants.{Unasked, GoesOn, Stops}
use Rattle.rv_flow.specs.declared.raw.RawFlow.{RawFlow}
use Rattle.rv_flow.specs.declared.raw.RawFlow.TheVariants as raw
use Rattle.rv_flow.specs.declared.insn_bytes.PlacedFlow.{PlacedFlow}
use Rattle.rv_flow.specs.Placed.{compressed_insn}
use Rattle.rv_flow.specs.Raw.{is_unimp, insn_flow, jalr_flow, pair_target, address_plus}

-- Control goes straight on after an instruction, wherever that stands.
abbrev pub goes_on : Insn → Bool
goes_on (insns.Jal rd offset) = false
goes_on (insns.Jalr rd rs1 imm) = false
goes_on (insns.Branch kind rs1 rs2 offset) = false
goes_on insns.Ebreak = false
goes_on (insns.Csr kind rd source csr) = not (is_unimp kind rd source csr)
goes_on (insns.Away kind reads writes) = false
goes_on _ = true

-- What is no instruction stops.
abbrev pub goes_on_behind : Option Insn → Bool
goes_on_behind None = false
goes_on_behind (Some insn) = goes_on insn

-- Control goes straight on after a halfword as a 16-bit instruction.
abbrev pub short_goes_on : Extensions → ℕ → Bool
short_goes_on e half = goes_on_behind (compressed_insn e half)

-- What is kept of a halfword, at its place, is true of it. Of one that was not asked for nothing is
-- said.
pub record AreTold (e : Extensions) (shorts : List ShortForm) : Type 0 where
  pub on : (half : ℕ) → get_or shorts half Unasked ≡ GoesOn → short_goes_on e half ≡ true
  pub stops : (half : ℕ) → get_or shorts half Unasked ≡ Stops → short_goes_on e half ≡ false

-- The opcode of a word is that of LUI or AUIPC.
abbrev pub is_upper : ℕ → Bool
is_upper word = (opcode word == 0x37) || (opcode word == 0x17)

-- The flow of a JAL at an address.
abbrev pub jal_flow : ℕ → ℕ → ℤ → RawFlow
jal_flow a rd offset =
    if rd == 0 then raw.Jump (address_plus a offset) else raw.Call (address_plus a offset)

-- The flow of a JALR at an address.
abbrev pub register_flow : List ℕ → ℕ → ℕ → ℕ → ℤ → RawFlow
register_flow bytes a rd rs1 imm = jalr_flow rd rs1 imm (pair_target bytes a rs1 imm)

-- An instruction of 32 bits has its own flow; what is no instruction has two bytes and stops.
abbrev pub long : RawFlow → PlacedFlow
long flow = record { length = 4; flow = flow }

abbrev pub flow_of_whole : List ℕ → ℕ → Option Insn → PlacedFlow
flow_of_whole bytes a None = record { length = 2; flow = raw.Stop }
flow_of_whole bytes a (Some insn) = long (insn_flow bytes a insn)
