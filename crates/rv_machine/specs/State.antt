-- The state of the machine beside its memory: one hart (RISC-V Unprivileged ISA 20240411, sections 2.1
-- and 14.2).
use Rattle.std.specs.Prelude.{ℕ, ◌==◌, slice_index, Option, None, if◌then◌else◌}
use Rattle.rv_machine.specs.declared.cpu.Cpu.{Cpu}
use Rattle.rv_machine.specs.declared.cpu.Reserved.{Reserved}
use Rattle.rv_machine.specs.declared.registers.Registers.{Registers}
use Rattle.rv_machine.specs.Registers.{RegisterFile, at_start}

-- the program counter, the registers, and what the last LR reserved, if no SC has cleared it
pub record State : Type 0 where
  pub pc : ℕ
  pub registers : RegisterFile
  pub reservation : Option Reserved

-- the state in which a program starts
abbrev pub start : ℕ → ℕ → State
start entry stack = record { pc = entry; registers = at_start stack; reservation = None }

-- the state that a `Cpu` keeps
abbrev pub file_of : Registers → RegisterFile
file_of registers r = if r == 0 then 0 else slice_index registers.values r

abbrev pub state_of : Cpu → State
state_of cpu =
    record { pc = cpu.pc; registers = file_of cpu.registers; reservation = cpu.reservation }
