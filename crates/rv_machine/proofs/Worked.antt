-- The machine at work, by computation.
use Rattle.std.proofs.Common.{◌≡◌, ℕ, ◌<◌, ◌^◌, ◌-◌, ◌+◌, Bool, true, false, List, [], Option, Some, None, refl, nat_lt, pos}
use Rattle.std.specs.Prelude.{if◌then◌else◌}
use Rattle.elf_image.specs.Number.{u16_at}
use Rattle.elf_image.specs.Sections.{sections}
use Rattle.elf_image.specs.Code.{is_code_byte, code_section_of}
use Rattle.elf_image.specs.ReadOnly.{is_read_only, data_section_of}
use Rattle.elf_image.specs.Fixed.{is_fixed}
use Rattle.rv_decode.specs.declared.instructions.Insn.{Insn}
use Rattle.rv_decode.specs.declared.instructions.Insn.TheVariants as insns
use Rattle.rv_decode.specs.declared.instructions.AtomicKind.TheVariants as atomics
use Rattle.rv_decode.specs.declared.instructions.LoadKind.TheVariants as loads
use Rattle.rv_decode.specs.declared.instructions.StoreKind.TheVariants as stores
use Rattle.rv_operations.specs.Atomics.{atomic_result}
use Rattle.rv_operations.specs.Loads.{load_result}
use Rattle.rv_machine.specs.declared.trap.Trap.{Trap}
use Rattle.rv_machine.specs.declared.trap.Trap.TheVariants as traps
use Rattle.rv_machine.specs.Registers.{held, written, at_start}
use Rattle.rv_machine.specs.State.{State, start}
use Rattle.rv_machine.specs.Memory.{Bytes, loaded, put, stored}
use Rattle.rv_machine.specs.Access.{read_at, may_store}
use Rattle.rv_machine.specs.Step.{Outcome, insn_step, step_of}

-- what stands in a file without sections
all_of_it : Unit {0}
unfolding u16_at sections is_code_byte is_read_only data_section_of is_fixed read_at may_store atomic_result load_result code_section_of
all_of_it = tt

-- sixteen zero bytes from address 0 on
zeros : Bytes
zeros a = if nat_lt a 16 then Some 0 else None

-- at address 1000, with 8 in x2
first : State
first = start 1000 8

-- several instructions of four bytes, one after the other, without a file
after : Insn → Outcome → Outcome
after insn (Outcome.Traps trap) = Outcome.Traps trap
after insn (Outcome.Goes state memory) = insn_step [] 4 insn state memory

-- what is left: a register, a byte, the program counter, the trap
register : ℕ → Outcome → Option ℕ
register r (Outcome.Traps trap) = None
register r (Outcome.Goes state memory) = Some (held state.registers r)

byte : ℕ → Outcome → Option ℕ
byte a (Outcome.Traps trap) = None
byte a (Outcome.Goes state memory) = memory a

counter : Outcome → Option ℕ
counter (Outcome.Traps trap) = None
counter (Outcome.Goes state memory) = Some state.pc

trap_of : Outcome → Option Trap
trap_of (Outcome.Traps trap) = Some trap
trap_of (Outcome.Goes state memory) = None

-- ---- memory

little_endian : loaded 4 (stored 4 zeros 3 0x01020304) 3 ≡ Some 0x01020304
unfolding zeros
little_endian = refl

lowest_first : stored 4 zeros 3 0x01020304 3 ≡ Some 4
unfolding zeros
lowest_first = refl

wraps_around : stored 2 zeros (2 ^ 64 - 1) 0x0102 0 ≡ Some 1
unfolding zeros
wraps_around = refl

-- ---- registers and jumps

writes_x0 : held (written (at_start 8) 0 5) 0 ≡ 0
writes_x0 = refl

-- a JALR through the register that it links
call : Outcome
call = insn_step [] 4 (insns.Jalr 2 2 (pos 5)) first zeros

call-counter : counter call ≡ Some 12
unfolding call counter first zeros
call-counter = refl

call-link : register 2 call ≡ Some 1004
unfolding call register first zeros
call-link = refl

-- ---- stores and loads

moved : Outcome
moved = after (insns.Load loads.Lb 6 2 (pos 1)) (insn_step [] 4 (insns.Store stores.Sh 2 2 (pos 1)) first zeros)

moved-byte : byte 9 moved ≡ Some 8
unfolding all_of_it moved after byte first zeros
moved-byte = refl

moved-register : register 6 moved ≡ Some 8
unfolding all_of_it moved after register first zeros
moved-register = refl

past_the_end : trap_of (insn_step [] 4 (insns.Store stores.Sd 2 2 (pos 1)) first zeros) ≡ Some traps.StoreFault
unfolding all_of_it trap_of first zeros
past_the_end = refl

nothing_there : trap_of (insn_step [] 4 (insns.Load loads.Ld 6 2 (pos 1)) first zeros) ≡ Some traps.LoadFault
unfolding all_of_it trap_of first zeros
nothing_there = refl

-- ---- LR and SC: the first SC stores and gives 0, and the second finds no reservation

lr : Insn
lr = insns.Atomic atomics.Lr true false false 5 2 0

sc : ℕ → Insn
sc rd = insns.Atomic atomics.Sc true false false rd 2 2

pair : Outcome
pair = after (sc 7) (after (sc 6) (insn_step [] 4 lr first zeros))

pair-first : register 6 pair ≡ Some 0
unfolding all_of_it pair after register lr sc first zeros
pair-first = refl

pair-second : register 7 pair ≡ Some 1
unfolding all_of_it pair after register lr sc first zeros
pair-second = refl

pair-byte : byte 8 pair ≡ Some 8
unfolding all_of_it pair after byte lr sc first zeros
pair-byte = refl

misaligned : trap_of (insn_step [] 4 (insns.Atomic atomics.Swap true false false 5 5 2) (record first { registers = written first.registers 5 4 }) zeros) ≡ Some traps.Misaligned
unfolding all_of_it trap_of first zeros
misaligned = refl

-- ---- traps by name

calls_system : trap_of (insn_step [] 4 insns.Ecall first zeros) ≡ Some traps.Ecall
unfolding trap_of
calls_system = refl

no_code : trap_of (step_of [] first zeros) ≡ Some traps.Fetch
unfolding all_of_it trap_of first zeros
no_code = refl
