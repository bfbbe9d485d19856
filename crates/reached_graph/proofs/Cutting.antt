-- Blocks that are cut at the same addresses.
use Rattle.std.proofs.Common.{ℕ, inl, inr}
use Rattle.cfg_model.specs.Program.Instructions.{InstructionMap}
use Rattle.cfg_model.specs.Graph.Block.{RunsTo, IsLastOf}

module _ (map : InstructionMap) (IsCut Other : ℕ → Type 0) (there : (a : ℕ) → IsCut a → Other a) (back : (a : ℕ) → Other a → IsCut a) where
  runs_same : {s k : ℕ} → RunsTo map IsCut s k → RunsTo map Other s k
  runs_same RunsTo.here = RunsTo.here
  runs_same (RunsTo.on {next = next} goes none rest) = RunsTo.on goes (λ other. none (back next other)) (runs_same rest)

  pub last_same : (s k : ℕ) → IsLastOf map IsCut s k → IsLastOf map Other s k
  last_same s k last = record {
    runs = runs_same last.runs;
    stops = elim last.stops [
      | inl ends ↦ inl ends
      | inr into ↦ inr (into.0, into.1, there into.0 into.2)
    ];
  }
