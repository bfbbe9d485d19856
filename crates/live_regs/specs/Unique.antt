-- Live registers are determined.
use Rattle.std.specs.Prelude.{◌≡◌, ℕ, ◌<◌, ◌^◌, List}
use Rattle.cfg_model.specs.declared.graph.Block.{Block}
use Rattle.cfg_model.specs.declared.graph.Edge.{Edge}
use Rattle.cfg_model.specs.declared.graph.Function.{Function}
use Rattle.cfg_model.specs.declared.live.Live.{Live}
use Rattle.live_regs.specs.Masks.{has_bit, AreAllLivesOf, AreLivesOf}

-- Two masks of the same bits are equal.
abbrev pub MaskIsUnique : Type 0
MaskIsUnique =
    (a b : ℕ) → a < 2 ^ 32 → b < 2 ^ 32 → ((r : ℕ) → r < 32 → has_bit a r ≡ has_bit b r) → a ≡ b

-- Two lists of the live registers of one function are equal.
abbrev pub LivesAreUnique : Type 0
LivesAreUnique =
    (bytes : List ℕ) (blocks : List Block) (edges : List Edge) (body : List ℕ)
    (lives others : List Live) → AreLivesOf bytes blocks edges body lives
    → AreLivesOf bytes blocks edges body others → lives ≡ others

-- The same of the live registers of all functions.
abbrev pub AllLivesAreUnique : Type 0
AllLivesAreUnique =
    (bytes : List ℕ) (blocks : List Block) (edges : List Edge) (functions : List Function)
    (lives others : List (List Live)) → AreAllLivesOf bytes blocks edges functions lives
    → AreAllLivesOf bytes blocks edges functions others → lives ≡ others
