-- Every reached instruction that ends a chain is the last one of a block. Which addresses are leaders
-- is not decided here, so the proofs go by what cannot be refuted.
use Rattle.std.proofs.Common.{◌≡◌, ℕ, ◌+◌, List, [], ◌∷◌, Option, Some, None, refl, ap, ◌∙◌, subst, inl, ⊎_elim}
use Rattle.std.specs.Prelude.{Contains, option_to_list}
use Rattle.std.proofs.lemmas.List.Elements.{Contains-append_cases}
use Rattle.cfg_model.specs.declared.flow.Flow.{Flow}
use Rattle.cfg_model.specs.declared.flow.Flow.TheVariants as flows
use Rattle.cfg_model.specs.declared.graph.Block.{Block}
use Rattle.cfg_model.specs.Program.Instructions.{Instruction, InstructionMap, flow_at, targets_at}
use Rattle.std.specs.Option.{option_map}
use Rattle.cfg_model.specs.Program.Chain.{GoesOnTo, IsTerminator, EndsChain}
use Rattle.cfg_model.specs.Program.Successors.{successors_of_flow}
use Rattle.cfg_model.specs.Program.Reach.{Reached}
use Rattle.cfg_model.specs.Graph.Leader.{IsLeader, StartsBlock, targets_by, fall_by}
use Rattle.cfg_model.specs.Graph.Block.{RunsTo, IsBlock, IsBlockTo, end_kind}
use Rattle.cfg_model.specs.Graph.Listing.{Lists}
use Rattle.cfg_model.specs.Graph.Graph.{BlockBefore}
use Rattle.cfg_model.proofs.Graphs.Runs.{run_step}
use Rattle.cfg_model.proofs.Graphs.Lists.{Contains-here, Contains-later, Contains-cons_cases, Contains-none}

-- a lies on the run of a leader
record IsCovered (map : InstructionMap) (seeds : List ℕ) (a : ℕ) : Type 0 where
  start : ℕ
  leader : IsLeader map seeds start
  runs : RunsTo map (IsLeader map seeds) start a

module _ (map : InstructionMap) (seeds : List ℕ) where
  at_leader : (a : ℕ) → Reached map seeds a → StartsBlock map seeds a → IsCovered map seeds a
  at_leader a reached starts = record { start = a; leader = record { reached = reached; starts = starts }; runs = RunsTo.here }

  -- where a is covered and goes on to b, b is covered too, whether or not it is a leader
  behind : (a b : ℕ) → ¬ ¬ IsCovered map seeds a → Reached map seeds b → GoesOnTo map a b → ¬ ¬ IsCovered map seeds b
  behind a b covered reached goes missing =
      covered (λ (c : IsCovered map seeds a).
      missing (record {
        start = c.start;
        leader = c.leader;
        runs =
            run_step map (IsLeader map seeds) c.start a b c.runs goes (λ (l : IsLeader map seeds b). missing (at_leader b reached l.starts));
      }))

  -- what a reached instruction sends control to is covered, by itself
  targeted : (a b : ℕ) (flow : Flow) → flow_at map a ≡ Some flow → Reached map seeds a → Reached map seeds b → Contains (targets_by (targets_at map a) flow) b → ¬ ¬ IsCovered map seeds b
  targeted a b flow is from reached among missing = missing (at_leader b reached (StartsBlock.target from is among))

  -- and so is the fall of a branch or of a call through a register
  fallen : (a b : ℕ) (flow : Flow) → flow_at map a ≡ Some flow → Reached map seeds a → Reached map seeds b → fall_by flow ≡ Some b → ¬ ¬ IsCovered map seeds b
  fallen a b flow is from reached falls missing = missing (at_leader b reached (StartsBlock.fall from is falls))

  among_fall : (fall : Option ℕ) (b : ℕ) → Contains (option_to_list fall) b → fall ≡ Some b
  among_fall None b among = absurd (Contains-none b among)
  among_fall (Some x) b among = ⊎_elim (λ e. ap (λ y. Some y) e) (λ more. absurd (Contains-none b more)) (Contains-cons_cases x [] b among)

  -- every way on within a function leads to what is covered
  onward : (a b : ℕ) (flow : Option Flow) → flow_at map a ≡ flow → Reached map seeds a → ¬ ¬ IsCovered map seeds a → Reached map seeds b
      → Contains (successors_of_flow (targets_at map a) flow) b → ¬ ¬ IsCovered map seeds b
  onward a b None is from covered reached among = absurd (Contains-none b among)
  onward a b (Some (flows.Straight next)) is from covered reached among =
      ⊎_elim (λ e. behind a b covered reached (is ∙ ap (λ n. Some (flows.Straight n)) e)) (λ more. absurd (Contains-none b more))
      (Contains-cons_cases next [] b among)
  onward a b (Some (flows.Branch None fall)) is from covered reached among =
      fallen a b (flows.Branch None fall) is from reached (among_fall fall b among)
  onward a b (Some (flows.Branch (Some taken) fall)) is from covered reached among =
      ⊎_elim (λ e. targeted a b (flows.Branch (Some taken) fall) is from reached (subst (λ x. Contains (taken ∷ []) x) e (Contains-here taken [])))
      (λ more. fallen a b (flows.Branch (Some taken) fall) is from reached (among_fall fall b more))
      (Contains-cons_cases taken (option_to_list fall) b among)
  onward a b (Some (flows.Jump target)) is from covered reached among = targeted a b (flows.Jump target) is from reached among
  onward a b (Some (flows.Call target fall)) is from covered reached among =
      targeted a b (flows.Call target fall) is from reached (Contains-later target (targets_at map a) b among)
  onward a b (Some (flows.IndirectCall fall)) is from covered reached among =
      ⊎_elim
      (λ falls. fallen a b (flows.IndirectCall fall) is from reached (among_fall fall b falls))
      (λ lands. targeted a b (flows.IndirectCall fall) is from reached lands)
      (Contains-append_cases (option_to_list fall) (targets_at map a) b among)
  onward a b (Some (flows.Table entries full is_open)) is from covered reached among = targeted a b (flows.Table entries full is_open) is from reached among
  onward a b (Some flows.Return) is from covered reached among = absurd (Contains-none b among)
  onward a b (Some flows.Unknown) is from covered reached among = absurd (Contains-none b among)
  onward a b (Some flows.Stop) is from covered reached among = absurd (Contains-none b among)

-- every reached address is covered
covered : {map : InstructionMap} {seeds : List ℕ} {a : ℕ} → Reached map seeds a → ¬ ¬ IsCovered map seeds a
covered {map} {seeds} {a} (Reached.seed among) missing = missing (at_leader map seeds a (Reached.seed among) (StartsBlock.seed among))
covered {map} {seeds} {a = b} (Reached.onward {a = a} from among) missing =
    onward map seeds a b (flow_at map a) refl from (covered from) (Reached.onward from among) among missing
covered {map} {seeds} {a = b} (Reached.called {a = a} {fall = fall} from calls) missing =
    targeted map seeds a b (flows.Call b fall) calls from (Reached.called from calls) (Contains-here b (targets_at map a)) missing
covered {map} {seeds} {a = b} (Reached.past_call from calls returns) missing =
    missing (at_leader map seeds b (Reached.past_call from calls returns) (StartsBlock.past_call from calls returns))

-- the block from the start of a run to the terminator at its end
module _ (map : InstructionMap) (seeds : List ℕ) (k : ℕ) (ends : IsTerminator map k) where
  block_to : (c : IsCovered map seeds k) → (i : Option Instruction) → map k ≡ i → (block : Block) × IsBlockTo map seeds block k
  block_to c None is = absurd (subst (λ o. EndsChain o) (ap (λ o. option_map (λ (j : Instruction). j.flow) o) is) ends)
  block_to c (Some i) is = (
    record { start = c.start; end = k + i.bytes; kind = end_kind i.flow },
    record {
      leader = c.leader;
      last = record { runs = c.runs; stops = inl ends };
      of = record {
        start = refl;
        ends = (i.bytes, ap (λ o. option_map (λ (j : Instruction). j.bytes) o) is, refl);
        kind = (i.flow, ap (λ o. option_map (λ (j : Instruction). j.flow) o) is, refl);
      };
    },
  )

-- the list of a program's blocks misses no reached terminator: not every block of it ends elsewhere
pub no_end_is_missed : (map : InstructionMap) (seeds : List ℕ) (blocks : List Block) → Lists BlockBefore (IsBlock map seeds) blocks → (k : ℕ) → Reached map seeds k → IsTerminator map k → ¬ ((block : Block) → Contains blocks block → ¬ IsBlockTo map seeds block k)
no_end_is_missed map seeds blocks lists k reached ends missed =
    covered reached (λ (c : IsCovered map seeds k).
    let b = block_to map seeds k ends c (map k) refl in
    missed b.0 (lists.complete b.0 (k, b.1)) b.1)
