-- Sets of integer registers as masks, and the live registers of a function.
use Rattle.std.specs.Prelude.{◌≡◌, ◌↔◌, ℕ, ◌/◌, ◌%◌, ◌^◌, ◌<◌, ◌≤◌, ◌==◌, Bool, IsTrue, List}
use Rattle.std.specs.List.{AllZip}
use Rattle.cfg_model.specs.declared.graph.Block.{Block}
use Rattle.cfg_model.specs.declared.graph.Edge.{Edge}
use Rattle.cfg_model.specs.declared.graph.Function.{Function}
use Rattle.cfg_model.specs.declared.live.Live.{Live}
use Rattle.live_regs.specs.Live.{IsLive}

-- Bit r of a mask is set.
abbrev pub has_bit : ℕ → ℕ → Bool
has_bit mask r = mask / 2 ^ r % 2 == 1

-- The mask of the registers x1 to x31 of which this holds: it has 32 bits, and bit 0 is not set.
pub record IsMaskOf (Holds : ℕ → Type 0) (mask : ℕ) : Type 0 where
  pub size : mask < 2 ^ 32
  pub bits : (r : ℕ) → r < 32 → IsTrue (has_bit mask r) ↔ ((1 ≤ r) × Holds r)

-- What is kept of the block at s: the registers that are live there.
pub record IsLiveAt (bytes : List ℕ) (blocks : List Block) (edges : List Edge) (body : List ℕ)
    (s : ℕ) (live : Live) : Type 0 where
  pub block : live.block ≡ s
  pub mask : IsMaskOf (λ r. IsLive bytes blocks edges body r s) live.mask

-- The live registers of the function of this body: for each of its blocks, in order.
abbrev pub AreLivesOf : List ℕ → List Block → List Edge → List ℕ → List Live → Type 0
AreLivesOf bytes blocks edges body lives =
    AllZip (IsLiveAt bytes blocks edges body) body lives

-- The live registers of all functions: one list for each, in order.
abbrev pub AreAllLivesOf : List ℕ → List Block → List Edge → List Function → List (List Live)
    → Type 0
AreAllLivesOf bytes blocks edges functions lives =
    AllZip (λ f. AreLivesOf bytes blocks edges f.body) functions lives
