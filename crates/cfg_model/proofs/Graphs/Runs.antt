-- Runs of a chain up to a block's end, and where a straight instruction goes on.
use Rattle.std.proofs.Common.{◌≡◌, ℕ, ◌+◌, ◌<◌, ◌^◌, [], IsSome, subst, ⊎_elim, arith}
use Rattle.std.specs.List.{All}
use Rattle.std.proofs.lemmas.List.Elements.{All-contains}
use Rattle.cfg_model.proofs.Graphs.Lists.{Contains-here}
use Rattle.cfg_model.specs.declared.flow.Flow.TheVariants.{Straight}
use Rattle.cfg_model.specs.Program.Instructions.{InstructionMap, IsLawful, FlowFits, named_by}
use Rattle.cfg_model.specs.Program.Chain.{GoesOnTo}
use Rattle.cfg_model.specs.Graph.Block.{RunsTo}
use Rattle.cfg_model.proofs.Program.Code.{at_flow}

-- a run goes on by one address
pub run_more : {map : InstructionMap} {IsCut : ℕ → Type 0} {s k : ℕ} (next : ℕ) → RunsTo map IsCut s k → GoesOnTo map k next → ¬ IsCut next → RunsTo map IsCut next next → RunsTo map IsCut s next
run_more next RunsTo.here goes none last = RunsTo.on goes none last
run_more next (RunsTo.on first clear rest) goes none last = RunsTo.on first clear (run_more next rest goes none last)

pub run_step : (map : InstructionMap) (IsCut : ℕ → Type 0) (s k next : ℕ) → RunsTo map IsCut s k → GoesOnTo map k next → ¬ IsCut next → RunsTo map IsCut s next
run_step map IsCut s k next run goes none = run_more next run goes none RunsTo.here

-- the address that a straight instruction goes on to is that of an instruction, higher up, within 64 bits
pub goes_up : (map : InstructionMap) (k next : ℕ) → IsLawful map → GoesOnTo map k next → (k < next) × (next < 2 ^ 64) × IsSome (map next)
goes_up map k next lawful goes =
    let i = at_flow map k (Straight next) goes in
    let law = lawful k i.0 i.1 in
    let fits = subst (FlowFits k i.0) i.2 law.fits in
    let is : next ≡ k + i.0.bytes = fits.0 in
    let ends : k + i.0.bytes < 2 ^ 64 = law.ends in
    let up : 0 < i.0.bytes = ⊎_elim (λ two. omega arith) (λ four. omega arith) law.size in
    (omega arith, omega arith, All-contains (λ b. IsSome (map b)) (named_by (Straight next)) next (subst (λ f. All (λ b. IsSome (map b)) (named_by f)) i.2 law.named) (Contains-here next []))
