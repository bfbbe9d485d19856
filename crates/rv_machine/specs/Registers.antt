-- The integer registers x0 to x31 (RISC-V Unprivileged ISA 20240411, section 2.1): x0 always reads 0.
use Rattle.std.specs.Prelude.{ℕ, ◌==◌, if◌then◌else◌}

-- a number for each register
abbrev pub RegisterFile : Type 0
RegisterFile = ℕ → ℕ

abbrev pub held : RegisterFile → ℕ → ℕ
held registers r = if r == 0 then 0 else registers r

-- a write of one register; one of x0 has no effect
abbrev pub written : RegisterFile → ℕ → ℕ → RegisterFile
written before rd value r = if r == 0 then 0 else (if r == rd then value else before r)

-- at the start x2 holds the stack's address, and all else 0
abbrev pub at_start : ℕ → RegisterFile
at_start stack r = if r == 2 then stack else 0
