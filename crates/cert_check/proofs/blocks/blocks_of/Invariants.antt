use Rattle.std.proofs.Common.{◌≡◌, ℕ, ◌<◌, length, get_or}
use Rattle.numbered.specs.Numbering.{IsNumbering}
use Rattle.cert_check.specs.declared.blocks.Run.{Run}
use Rattle.cert_check.specs.Inner.Blocks.{AreOwned, IsRun, owner_by}
use Rattle.cert_check.proofs.blocks.blocks_of.Given as goal

abbrev pub invariant-loop-i : goal.invariant-loop-i
invariant-loop-i g l = record {
  numbering : IsNumbering (g.C.Chains.map l.code) (g.C.Numbered.number l.code) (length l.owners.places.items);
  owned : AreOwned (g.C.Chains.map l.code) l.leads (owner_by (g.C.Numbered.number l.code) l.owners.places.items) l.i;
  as_many : length l.runs.items ≡ l.i;
  each : (j : ℕ) (d : Run) → j < l.i → IsRun (g.C.Chains.map l.code) l.leads j (get_or l.runs.items j d);
}
