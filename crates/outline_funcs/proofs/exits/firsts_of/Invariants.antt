use Rattle.std.proofs.Common.{◌≡◌, ℕ, ◌<◌, ◌≤◌, length, get_or}
use Rattle.cfg_model.specs.declared.graph.Block.{Block}
use Rattle.cfg_model.specs.declared.graph.Edge.{Edge}
use Rattle.outline_funcs.specs.Inner.Exits.{IsFirst}
use Rattle.outline_funcs.proofs.exits.firsts_of.Given as goal

abbrev pub invariant-loop-block : goal.invariant-loop-block
invariant-loop-block l = record {
  as_many : length l.firsts.items ≡ l.block-index;
  within : l.first ≤ length l.edges;
  before : (k j : ℕ) (d : Edge) (e : Block) → k < l.first → l.block-index ≤ j → j < length l.blocks
      → (get_or l.edges k d).from < (get_or l.blocks j e).start;
  each : (j d : ℕ) → j < l.block-index → IsFirst l.blocks l.edges j (get_or l.firsts.items j d);
}
