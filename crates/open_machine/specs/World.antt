-- What is around the written machine: memory, and a state of which nothing is said.
use Rattle.std.specs.Prelude.{ℕ}
use Rattle.rv_machine.specs.Memory.{Bytes}

-- The hidden state of the surroundings: float and vector registers, control and status registers, the
-- system that ECALL calls, time, devices, as any sequence of numbers. No law looks into it.
abbrev pub Hidden : Type 0
Hidden = ℕ → ℕ

-- The hidden state and memory.
pub record World : Type 0 where
  pub hidden : Hidden
  pub memory : Bytes

-- The same hidden state with other memory.
abbrev pub with_memory : World → Bytes → World
with_memory world memory = record world { memory = memory }
