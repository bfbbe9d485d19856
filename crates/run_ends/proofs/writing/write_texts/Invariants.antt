use Rattle.std.proofs.Common.{◌≡◌, ◌≤◌, ℕ, List, ◌++◌, drop}
use Rattle.std.specs.List.{flat_map}
use Rattle.cfg_io.specs.Told.{Appends}
use Rattle.run_ends.proofs.writing.write_texts.Given as goal

-- what was written and what is to come are all of the texts
abbrev pub invariant-loop-text : goal.invariant-loop-text
invariant-loop-text g l = record {
  never_falls : g.O.Sink.faults l.fn.out ≤ g.O.Sink.faults l.out;
  written : (done : List ℕ) × Appends (g.O.Sink.written l.fn.out) done (g.O.Sink.written l.out) × (done ++ flat_map (λ text. text.items) (drop l.text-index l.texts) ≡ flat_map (λ text. text.items) l.texts);
}
