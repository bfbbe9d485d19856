use Rattle.std.proofs.Common.{◌≡◌, length}
use Rattle.chain_index.proofs.Passes.{IsPassed}
use Rattle.chain_index.proofs.reach.pass_back.Given as goal

abbrev pub invariant-loop-k : goal.invariant-loop-k
invariant-loop-k l = record { passed : IsPassed l.image l.fn.s l.from l.k l.near l.far l.part; size : length l.part ≡ length l.initial.part; kept : l.forms ≡ l.fn.forms }
