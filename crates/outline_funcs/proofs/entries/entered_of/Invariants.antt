use Rattle.std.proofs.Common.{◌≡◌, ℕ, Bool, ◌<◌, ◌≤◌, length, get_or}
use Rattle.cfg_model.specs.declared.graph.Block.{Block}
use Rattle.outline_funcs.proofs.Entered.{MarksBlock}
use Rattle.outline_funcs.proofs.entries.entered_of.Given as goal

abbrev pub invariant-loop-block : goal.invariant-loop-block
invariant-loop-block l = record {
  as_many : length l.entered.items ≡ l.block-index;
  within : l.next ≤ length l.entries;
  before : (k : ℕ) (j : ℕ) (d : Block) → k < l.next → l.block-index ≤ j → j < length l.blocks
      → get_or l.entries k 0 < (get_or l.blocks j d).start;
  exact : (j : ℕ) (d : Bool) → j < l.block-index → MarksBlock l.blocks l.entries j (get_or l.entered.items j d);
}
