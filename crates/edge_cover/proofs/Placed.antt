-- The block of an address in an outline.
use Rattle.std.proofs.Common.{◌≡◌, ℕ, ◌+◌, ◌<◌, List, Contains, Some, sym, ap, ◌∙◌}
use Rattle.cfg_model.specs.declared.graph.Block.{Block}
use Rattle.cfg_model.specs.declared.graph.Outline.{Outline}
use Rattle.cfg_model.specs.Program.Instructions.{InstructionMap, IsLawful, length_at}
use Rattle.cfg_model.specs.Program.Chain.{OnChain}
use Rattle.cfg_model.specs.Graph.Graph.{IsOutline}
use Rattle.cfg_model.specs.Graph.Places.{LiesIn}
use Rattle.cfg_model.proofs.Graphs.Places.{blocks_are_apart}
use Rattle.std.proofs.lemmas.Option.{same_Some}
use Rattle.edge_cover.specs.Move.{IsMoveOf, move_in}
use Rattle.edge_cover.proofs.Lies.{lies_by_chain}

-- for whatever seeds this is the outline of the program, this is the block that a lies in
pub record IsBlockWith (map : InstructionMap) (outline : Outline) (a : ℕ) (block : Block) : Type 0 where
  pub listed : Contains outline.blocks block
  pub lies : (seeds : List ℕ) → IsOutline map seeds outline.blocks outline.edges → LiesIn map seeds block a

module _ (map : InstructionMap) (lawful : IsLawful map) (outline : Outline) (a : ℕ) where
  -- for whatever seeds, a block of the outline whose chain leads to the address before its end is that of the address
  pub block_there : (block : Block) → Contains outline.blocks block → OnChain map block.start a → a < block.end → IsBlockWith map outline a block
  block_there block listed chain below = record {
    listed = listed;
    lies = λ seeds is. lies_by_chain map seeds block (is.all_blocks.sound block listed) lawful a chain below;
  }

-- the move in the one block that the address lies in
pub same_move : (map : InstructionMap) → IsLawful map → (outline : Outline) (from bytes to : ℕ) (block : Block) → IsBlockWith map outline from block → length_at map from ≡ Some bytes → IsMoveOf map outline from to (move_in block outline.edges (from + bytes) to)
same_move map lawful outline from bytes to block with long seeds is other listed lies more size =
    let same : block ≡ other = blocks_are_apart map seeds outline.blocks outline.edges lawful is block other with.listed listed from (with.lies seeds is) lies in
    let length : bytes ≡ more = same_Some bytes more (sym long ∙ size) in
    ap (λ (b : Block). move_in b outline.edges (from + bytes) to) same ∙ ap (λ n. move_in other outline.edges (from + n) to) length
