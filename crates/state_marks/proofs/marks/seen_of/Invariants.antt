use Rattle.std.proofs.Common.{◌≡◌, ℕ, ◌<◌, length, get_or}
use Rattle.std.specs.Prelude.{IfOk}
use Rattle.state_marks.specs.Inner.Parts.{Answered}
use Rattle.state_marks.specs.Inner.Seen.{IsSeen}
use Rattle.state_marks.proofs.marks.seen_of.Given as goal

-- each shard so far has its part
abbrev pub invariant-loop-shard : goal.invariant-loop-shard
invariant-loop-shard g l = record {
  as_many : length l.parts.items ≡ l.shard;
  each : (i : ℕ) (d : Answered) → i < l.shard → IfOk (get_or l.parts.items i d) (IsSeen (g.C.Numbered.number l.code) i l.state.maps);
}
