-- Live registers (liveness as in compilers, on the machine code; that calls and returns read every
-- register is this project's profile).
use Rattle.std.specs.Prelude.{◌≡◌, ℕ, IsTrue, IsFalse, List, Contains}
use Rattle.cfg_model.specs.declared.graph.Block.{Block}
use Rattle.cfg_model.specs.declared.graph.Edge.{Edge}
use Rattle.live_regs.specs.Leaves.{LeadsOn, Leaves}
use Rattle.live_regs.specs.Run.{instructions_of, reads_first, run_writes}

-- One of these blocks, which starts at s, where this body has it.
pub record IsBlockIn (blocks : List Block) (body : List ℕ) (s : ℕ) (block : Block) : Type 0 where
  pub listed : Contains blocks block
  pub starts : block.start ≡ s
  pub within : Contains body s

-- xr is live at block s of the function of this body: its value on entry may still be used. The
-- block reads it first; or leaves the function and does not write it; or does not write it, and
-- leads on to a block of the body at which it is live.
pub data IsLive (bytes : List ℕ) (blocks : List Block) (edges : List Edge) (body : List ℕ)
    (r : ℕ) : ℕ → Type 0 where
  reads : {s : ℕ} {block : Block} → IsBlockIn blocks body s block
      → IsTrue (reads_first (instructions_of bytes block) r)
      → IsLive bytes blocks edges body r s
  leaves : {s : ℕ} {block : Block} → IsBlockIn blocks body s block → Leaves edges body block
      → IsFalse (run_writes (instructions_of bytes block) r)
      → IsLive bytes blocks edges body r s
  onward : {s t : ℕ} {block : Block} → IsBlockIn blocks body s block
      → IsFalse (run_writes (instructions_of bytes block) r)
      → LeadsOn edges s t → IsLive bytes blocks edges body r t
      → IsLive bytes blocks edges body r s
