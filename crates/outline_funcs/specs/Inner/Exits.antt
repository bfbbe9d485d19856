-- The edges of a program by the block that they leave, and which of them stay in a function.
use Rattle.std.specs.Prelude.{◌≡◌, ℕ, ◌+◌, ◌<◌, ◌≤◌, false, List, length, slice_index_or}
use Rattle.std.specs.Prelude.{All, AllPairs, Contains, IsTrue}
use Rattle.cfg_model.specs.declared.graph.Block.{Block}
use Rattle.cfg_model.specs.declared.graph.Edge.{Edge}
use Rattle.cfg_model.specs.Graph.Function.{InBody, StaysIn}
use Rattle.cfg_model.specs.Graph.Graph.{BlockBefore}
use Rattle.outline_funcs.specs.declared.exits.Exits.{Exits}
use Rattle.outline_funcs.specs.Inner.Blocks.{HasBlockAt, IsNumber}

-- The edge joins two of these blocks.
pub record JoinsBlocks (blocks : List Block) (edge : Edge) : Type 0 where
  pub leaves : HasBlockAt blocks edge.from
  pub enters : HasBlockAt blocks edge.to

-- The edges before this place leave blocks before number i, and no others do.
pub record IsFirst (blocks : List Block) (edges : List Edge) (i first : ℕ) : Type 0 where
  pub within : first ≤ length edges
  pub before : (k j : ℕ) (d : Edge) → k < first
      → IsNumber blocks j (slice_index_or edges k d).from → j < i
  pub behind : (k j : ℕ) (d : Edge) → first ≤ k → k < length edges
      → IsNumber blocks j (slice_index_or edges k d).from → i ≤ j

-- These are the places for each block, and for one after the last.
pub record AreFirsts (blocks : List Block) (edges : List Edge) (firsts : List ℕ) : Type 0 where
  pub as_many : length firsts ≡ length blocks + 1
  pub each : (i d : ℕ) → i < length firsts → IsFirst blocks edges i (slice_index_or firsts i d)

-- The edges join the blocks, which are in order, and what is kept for each block is there.
pub record AreExits (exits : Exits) : Type 0 where
  pub in_order : AllPairs BlockBefore exits.blocks.now
  pub joined : All (JoinsBlocks exits.blocks.now) exits.edges.now
  pub firsts : AreFirsts exits.blocks.now exits.edges.now exits.firsts.items
  pub marks : length exits.entered.items ≡ length exits.blocks.now

-- A function starts at the block that starts at a.
pub record IsEntered (exits : Exits) (a : ℕ) : Type 0 where
  pub number : ℕ
  pub numbered : IsNumber exits.blocks.now number a
  pub marked : IsTrue (slice_index_or exits.entered.items number false)

-- The body of the function of this entry, by the starts of its blocks.
abbrev pub InBodyBy : Exits → ℕ → ℕ → Type 0
InBodyBy exits = InBody (Contains exits.edges.now) (IsEntered exits)

-- The edge stays in the function of this entry, and leads to block number b.
pub record LeadsWithin (exits : Exits) (entry : ℕ) (edge : Edge) (b : ℕ) : Type 0 where
  pub stays : StaysIn (IsEntered exits) entry edge
  pub target : IsNumber exits.blocks.now b edge.to

-- An edge from block number i does.
pub record LeadsOn (exits : Exits) (entry i b : ℕ) : Type 0 where
  pub edge : Edge
  pub listed : Contains exits.edges.now edge
  pub leaves : IsNumber exits.blocks.now i edge.from
  pub leads : LeadsWithin exits entry edge b
