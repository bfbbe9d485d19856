use Rattle.std.proofs.Common.{ℕ, ◌+◌, zero-add, sym, ap, ◌∙◌}
use Rattle.board.specs.Slots.{shard_in, shard_at}
use Rattle.board.proofs.Places.{starts_slot, ends_slot, terms_slot}
use Rattle.board.proofs.turn.slot_at.Goals.{in-Starts, in-Ends, in-Terms}
use Rattle.board.proofs.turn.slot_at.Goals as goal

pub returns-clause-place : goal.returns-clause-place
returns-clause-place c =
    elim c.match-kind.branch [
      | in-Starts w ↦ ap (λ (n : ℕ). shard_in (n + c.args.shard)) w.first-is ∙ (ap shard_in (zero-add c.args.shard) ∙ starts_slot c.args.shard c.requires ∙ ap (λ k. shard_at k c.args.shard) (sym w.in-Starts.is))
      | in-Ends w ↦ ap (λ (n : ℕ). shard_in (n + c.args.shard)) w.first-is ∙ (ends_slot c.args.shard c.requires ∙ ap (λ k. shard_at k c.args.shard) (sym w.in-Ends.is))
      | in-Terms w ↦ ap (λ (n : ℕ). shard_in (n + c.args.shard)) w.first-is ∙ (terms_slot c.args.shard c.requires ∙ ap (λ k. shard_at k c.args.shard) (sym w.in-Terms.is))
    ]
