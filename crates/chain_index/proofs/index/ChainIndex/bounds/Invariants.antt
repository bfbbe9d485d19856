use Rattle.std.proofs.Common.{◌≡◌, ◌+◌, ◌≤◌, vec_len}
use Rattle.chain_index.proofs.index.ChainIndex.bounds.Given as goal

-- one bound for each number so far
abbrev pub invariant-loop-i : goal.invariant-loop-i
invariant-loop-i l = record {
  count : vec_len l.bounds + 1 ≡ l.i;
  within : l.i ≤ l.count;
}
