-- The instructions of a basic block, and the registers that they read and write together (RISC-V
-- Unprivileged ISA 20240411, section 2.1: the integer registers).
use Rattle.std.specs.Prelude.{ℕ, zero, suc, ◌+◌, ◌-◌, ◌&&◌, ◌||◌, Bool, false, not, nat_lt, Option}
use Rattle.std.specs.Prelude.{List, [], ◌∷◌, if◌then◌else◌}
use Rattle.cfg_model.specs.declared.graph.Block.{Block}
use Rattle.rv_decode.specs.declared.instructions.Insn.{Insn}
use Rattle.elf_image.specs.Architecture.{extensions_of}
use Rattle.rv_flow.specs.Placed.{placed_at}
use Rattle.live_regs.specs.Effects.{as_read, reads, writes}

-- The instructions that are placed one after another from a on, before `end`; so many at the most.
unfoldable pub placed_from : List ℕ → ℕ → ℕ → ℕ → List (Option Insn)
placed_from bytes end zero a = []
placed_from bytes end (suc most) a =
    if nat_lt a end
    then as_read (extensions_of bytes) (placed_at bytes a)
    ∷ placed_from bytes end most (a + (placed_at bytes a).length)
    else []

-- The instructions of a block: it has a byte at least for each.
unfoldable pub instructions_of : List ℕ → Block → List (Option Insn)
instructions_of bytes block =
    placed_from bytes block.end (block.end - block.start) block.start

-- An instruction of the run reads xr, and none before it writes xr.
abbrev pub reads_first : List (Option Insn) → ℕ → Bool
reads_first [] r = false
reads_first (insn ∷ run) r = reads insn r || (not (writes insn r) && reads_first run r)

-- An instruction of the run writes xr.
abbrev pub run_writes : List (Option Insn) → ℕ → Bool
run_writes [] r = false
run_writes (insn ∷ run) r = writes insn r || run_writes run r
