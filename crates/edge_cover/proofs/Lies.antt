-- An address lies in a block exactly if it is on the chain of the block's start, and before its end.
use Rattle.std.proofs.Common.{◌≡◌, ℕ, ◌+◌, ◌<◌, List, Option, Some, None, refl, sym, ◌∙◌, subst, ⊎_elim, arith}
use mathlib.Core.Logic.{inl, inr}
use Rattle.std.specs.Option.{option_map}
use Rattle.std.proofs.lemmas.Option.{same_Some}
use Rattle.cfg_model.specs.declared.graph.Block.{Block}
use Rattle.cfg_model.specs.Program.Instructions.{Instruction, InstructionMap, IsLawful, length_at}
use Rattle.cfg_model.specs.Program.Chain.{OnChain, GoesOnTo}
use Rattle.cfg_model.specs.Program.Meeting.{IsStop}
use Rattle.cfg_model.specs.Graph.Block.{RunsTo, IsBlock}
use Rattle.cfg_model.specs.Graph.Places.{LiesIn}
use Rattle.cfg_model.proofs.Program.ChainFacts.{chain_cases, chain_up, one_next}
use Rattle.cfg_model.proofs.Graphs.LeaderFacts.{has_length, HasLength}
use Rattle.cfg_model.proofs.Graphs.OneBlock.{not_both}

-- a run is along a chain
pub chain_of : {map : InstructionMap} {IsCut : ℕ → Type 0} {s k : ℕ} → RunsTo map IsCut s k → OnChain map s k
chain_of RunsTo.here = OnChain.here
chain_of (RunsTo.on goes none rest) = OnChain.on goes (chain_of rest)

-- what is on the chain of a run's start, and not after its last instruction, is on the run
pub run_within : {map : InstructionMap} {IsCut : ℕ → Type 0} {s k : ℕ} → IsLawful map → RunsTo map IsCut s k → (a bytes : ℕ) → length_at map k ≡ Some bytes → OnChain map s a → a < k + bytes → RunsTo map IsCut s a
run_within {map} {IsCut} lawful (RunsTo.here {s = k}) a bytes long chain below =
    elim (chain_cases chain) [
      | inl same ↦ subst (RunsTo map IsCut k) same RunsTo.here
      | inr more ↦
          let length : HasLength map k more.0 = has_length map lawful k more.0 more.1 in
          let same : length.bytes ≡ bytes = same_Some length.bytes bytes (sym length.is ∙ long) in
          absurd (omega (arith, length.behind, same, chain_up lawful more.2, below))
    ]
run_within {map} {IsCut} lawful (RunsTo.on {s = s} {next = next} goes none rest) a bytes long chain below =
    elim (chain_cases chain) [
      | inl same ↦ subst (RunsTo map IsCut s) same RunsTo.here
      | inr more ↦ RunsTo.on goes none (run_within lawful rest a bytes long (subst (λ n. OnChain map n a) (one_next map s more.0 next more.1 goes) more.2) below)
    ]

-- nothing runs on over a stop
stops_here : (map : InstructionMap) (IsCut : ℕ → Type 0) (k next : ℕ) → IsStop map IsCut k → GoesOnTo map k next → ¬ IsCut next → ⊥
stops_here map IsCut k next stops goes none =
    ⊎_elim (λ ends. not_both map k next goes ends) (λ meets. none (subst IsCut (one_next map k meets.0 next meets.1 goes) meets.2)) stops

-- the run of a block goes on from each of its addresses to the last
pub run_on : {map : InstructionMap} {IsCut : ℕ → Type 0} {s a k : ℕ} → RunsTo map IsCut s a → RunsTo map IsCut s k → IsStop map IsCut k → RunsTo map IsCut a k
run_on RunsTo.here last stops = last
run_on {map} {IsCut} (RunsTo.on {next = next} goes none rest) (RunsTo.here {s = s}) stops = absurd (stops_here map IsCut s next stops goes none)
run_on {map} {IsCut} {k = k} (RunsTo.on {s = s} {next = next} goes none rest) (RunsTo.on {next = other} way clear more) stops =
    run_on rest (subst (λ n. RunsTo map IsCut n k) (one_next map s other next way goes) more) stops

module _ (map : InstructionMap) (seeds : List ℕ) (block : Block) (is : IsBlock map seeds block) where
  pub lies_by_chain : IsLawful map → (a : ℕ) → OnChain map block.start a → a < block.end → LiesIn map seeds block a
  lies_by_chain lawful a chain below =
      run_within lawful is.1.last.runs a is.1.of.ends.0 is.1.of.ends.1 chain (let e : block.end ≡ is.0 + is.1.of.ends.0 = is.1.of.ends.2 in omega arith)

  -- the instruction at the last address has some bytes
  pub last_below : IsLawful map → is.0 < block.end
  last_below lawful = last_sized (map is.0) refl (is.1.of.ends.1)
    where
      last_sized : (o : Option Instruction) → map is.0 ≡ o → option_map (λ (i : Instruction). i.bytes) o ≡ Some is.1.of.ends.0 → is.0 < block.end
      last_sized None at e = cc
      last_sized (Some i) at e =
          let same : i.bytes ≡ is.1.of.ends.0 = same_Some i.bytes is.1.of.ends.0 e in
          let ends : block.end ≡ is.0 + is.1.of.ends.0 = is.1.of.ends.2 in
          ⊎_elim (λ two. omega arith) (λ four. omega arith) (lawful is.0 i at).size

  pub lies_below : IsLawful map → (a : ℕ) → LiesIn map seeds block a → a < block.end
  lies_below lawful a lies = omega (arith, chain_up lawful (chain_of (run_on lies is.1.last.runs is.1.last.stops)), last_below lawful)
