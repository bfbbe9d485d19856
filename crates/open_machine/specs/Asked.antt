-- What the surroundings are asked at an instruction that the written machine does not make, and what
-- they reply (this project's profile: they see no other register than those that it is said to read).
use Rattle.std.specs.Prelude.{◌≡◌, ℕ, ◌^◌, ◌<◌, ◌==◌, ◌&&◌, ◌||◌, nat_lt, Bool, not}
use Rattle.std.specs.Prelude.{IsTrue, List, Option, if◌then◌else◌}
use Rattle.elf_image.specs.Fixed.{is_fixed_byte}
use Rattle.rv_decode.specs.declared.instructions.Insn.{Insn}
use Rattle.rv_decode.specs.declared.instructions.Insn.TheVariants as insns
use Rattle.rv_machine.specs.declared.cpu.Reserved.{Reserved}
use Rattle.rv_machine.specs.Registers.{RegisterFile, held}
use Rattle.rv_machine.specs.Memory.{Bytes}
use Rattle.live_regs.specs.Effects.{has_source, has_destination}
use Rattle.open_machine.specs.World.{Hidden, World}

-- The registers as an instruction sees them: the value of each that it is said to read, and 0 for
-- every other one.
abbrev pub seen_by : Insn → RegisterFile → RegisterFile
seen_by insn registers r =
    if nat_lt r 32 && has_source insn r then held registers r else 0

-- The registers that an instruction may change: those that it is said to write; for ECALL each one,
-- and for a word of a vendor each that it names. The last two are said to read what they may change.
abbrev pub may_change : Insn → ℕ → Bool
may_change insns.Ecall r = not (r == 0)
may_change (insns.Vendor kind shift rd rs1 rs2) r =
    not (r == 0) && (r == rd || (r == rs1 || r == rs2))
may_change insn r = not (r == 0) && has_destination insn r

-- The address and the instruction there, the values of the registers that it is said to read, the
-- reservation and the memory.
pub record Asked : Type 0 where
  pub address : ℕ
  pub insn : Insn
  pub values : RegisterFile
  pub reservation : Option Reserved
  pub memory : Bytes

-- The run ends there; or it goes on, with another hidden state, memory and reservation, and these
-- values for the registers that the instruction may change.
pub data Reply : Type 0 where
  Stops : Reply
  Answers : World → RegisterFile → Option Reserved → Reply

-- The surroundings of the machine: what they reply is determined by their hidden state and by what
-- they are asked.
abbrev pub Surroundings : Type 0
Surroundings = Hidden → Asked → Reply

-- Surroundings that end the run whenever they are asked.
abbrev pub no_surroundings : Surroundings
no_surroundings hidden asked = Stops

-- The surroundings change no byte of a code section or of a read-only section of the file.
abbrev pub KeepsFixedBytes : List ℕ → Surroundings → Type 0
KeepsFixedBytes bytes surroundings =
    (hidden : Hidden) (asked : Asked) (world : World) (values : RegisterFile)
    (reservation : Option Reserved) → surroundings hidden asked ≡ Answers world values reservation
    → (a : ℕ) → a < 2 ^ 64 → IsTrue (is_fixed_byte bytes a) → world.memory a ≡ asked.memory a
