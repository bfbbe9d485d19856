-- Every reachable address lies in one block of an outline, and in no other. Which addresses are leaders is decided by the list of blocks.
use Rattle.std.proofs.Common.{◌≡◌, ℕ, List, [], ◌∷◌, Option, Some, None, IsSome, Contains, option_to_list, refl, sym, ap, ◌∙◌, subst, inl, inr, ⊎_elim}
use Rattle.std.proofs.lemmas.Bool.{cases_eq}
use Rattle.std.proofs.lemmas.List.Elements.{All-contains, Contains-append_cases}
use Rattle.cfg_model.specs.declared.flow.Flow.{Flow}
use Rattle.cfg_model.specs.declared.flow.Flow.TheVariants as flows
use Rattle.cfg_model.specs.declared.graph.Block.{Block}
use Rattle.cfg_model.specs.Program.Instructions.{InstructionMap, IsLawful, flow_at, targets_at}
use Rattle.cfg_model.specs.Program.Chain.{GoesOnTo}
use Rattle.cfg_model.specs.Program.Successors.{successors_of_flow}
use Rattle.cfg_model.specs.Program.Reach.{AreSeeds, Reached}
use Rattle.cfg_model.specs.Graph.Leader.{IsLeader, StartsBlock, targets_by, fall_by}
use Rattle.cfg_model.specs.Graph.Block.{RunsTo, IsBlock}
use Rattle.cfg_model.specs.Graph.Listing.{Lists}
use Rattle.cfg_model.specs.Graph.Graph.{BlockBefore}
use Rattle.cfg_model.specs.Graph.Joined.{StartsABlock}
use Rattle.cfg_model.specs.Graph.Places.{HasABlock, EachAddressHasABlock, BlocksAreApart}
use Rattle.cfg_model.proofs.Program.Known.{successor_known, target_known, fall_known, reached_along}
use Rattle.cfg_model.proofs.Graphs.Lists.{Contains-here, Contains-later, Contains-cons_cases, Contains-none}
use Rattle.cfg_model.proofs.Graphs.Runs.{run_step}
use Rattle.cfg_model.proofs.Graphs.LeaderFacts.{joined}
use Rattle.cfg_model.proofs.Graphs.OneBlock.{block_unique}
use Rattle.cfg_model.proofs.Graphs.Joined.{found_or_not, leader_starts}

-- an instruction stands at every reachable address
pub reached_known : {map : InstructionMap} {seeds : List ℕ} {a : ℕ} → IsLawful map → AreSeeds map seeds → Reached map seeds a → IsSome (map a)
reached_known {map} {seeds} lawful are (Reached.seed {a = a} among) = All-contains (λ x. IsSome (map x)) seeds a are.known among
reached_known {map} lawful are (Reached.onward {a = a} {b = b} from way) = successor_known map lawful a b way
reached_known {map} lawful are (Reached.called {a = a} {target = target} from calls) = target_known map lawful a target calls
reached_known {map} lawful are (Reached.past_call {a = a} {target = target} {fall = fall} from calls returns) = fall_known map lawful a target fall calls

module _ (map : InstructionMap) (seeds : List ℕ) (blocks : List Block) (lawful : IsLawful map) (are : AreSeeds map seeds) (lists : Lists BlockBefore (IsBlock map seeds) blocks) where
  -- a leader starts a block of the list, and lies in it
  at_leader : (a : ℕ) → IsLeader map seeds a → HasABlock map seeds blocks a
  at_leader a leader =
      let found : StartsABlock blocks a = leader_starts map seeds lawful blocks lists a leader (reached_known lawful are leader.reached) in
      record { block = found.block; listed = found.listed; lies = subst (λ s. RunsTo map (IsLeader map seeds) s a) (sym found.starts) RunsTo.here }

  at_start : (a : ℕ) → Reached map seeds a → StartsBlock map seeds a → HasABlock map seeds blocks a
  at_start a reached starts = at_leader a (record { reached = reached; starts = starts })

  -- what starts a block of the list is a leader
  starts_leader : (a : ℕ) → StartsABlock blocks a → IsLeader map seeds a
  starts_leader a starts = subst (IsLeader map seeds) starts.starts (lists.sound starts.block starts.listed).1.leader

  -- where a lies in a block and goes on to b, b lies in one, whether or not it is a leader
  after : (a b : ℕ) → HasABlock map seeds blocks a → Reached map seeds b → GoesOnTo map a b → HasABlock map seeds blocks b
  after a b has reached goes =
      elim (found_or_not blocks b) [
        | inl starts ↦ at_leader b (starts_leader b starts)
        | inr none ↦ record {
          block = has.block;
          listed = has.listed;
          lies = run_step map (IsLeader map seeds) has.block.start a b has.lies goes (λ leader. none (leader_starts map seeds lawful blocks lists b leader (reached_known lawful are reached)));
        }
      ]

  targeted : (a b : ℕ) (flow : Flow) → flow_at map a ≡ Some flow → Reached map seeds a → Reached map seeds b → Contains (targets_by (targets_at map a) flow) b → HasABlock map seeds blocks b
  targeted a b flow is from reached among = at_start b reached (StartsBlock.target from is among)

  fallen : (a b : ℕ) (flow : Flow) → flow_at map a ≡ Some flow → Reached map seeds a → Reached map seeds b → fall_by flow ≡ Some b → HasABlock map seeds blocks b
  fallen a b flow is from reached falls = at_start b reached (StartsBlock.fall from is falls)

  among_fall : (fall : Option ℕ) (b : ℕ) → Contains (option_to_list fall) b → fall ≡ Some b
  among_fall None b among = absurd (Contains-none b among)
  among_fall (Some x) b among = ⊎_elim (λ e. ap (λ y. Some y) e) (λ more. absurd (Contains-none b more)) (Contains-cons_cases x [] b among)

  -- every way on within a function leads into a block
  onward : (a b : ℕ) (flow : Option Flow) → flow_at map a ≡ flow → Reached map seeds a → HasABlock map seeds blocks a → Reached map seeds b
      → Contains (successors_of_flow (targets_at map a) flow) b → HasABlock map seeds blocks b
  onward a b None is from has reached among = absurd (Contains-none b among)
  onward a b (Some (flows.Straight next)) is from has reached among =
      ⊎_elim (λ e. after a b has reached (is ∙ ap (λ n. Some (flows.Straight n)) e)) (λ more. absurd (Contains-none b more))
      (Contains-cons_cases next [] b among)
  onward a b (Some (flows.Branch None fall)) is from has reached among =
      fallen a b (flows.Branch None fall) is from reached (among_fall fall b among)
  onward a b (Some (flows.Branch (Some taken) fall)) is from has reached among =
      ⊎_elim (λ e. targeted a b (flows.Branch (Some taken) fall) is from reached (subst (λ x. Contains (taken ∷ []) x) e (Contains-here taken [])))
      (λ more. fallen a b (flows.Branch (Some taken) fall) is from reached (among_fall fall b more))
      (Contains-cons_cases taken (option_to_list fall) b among)
  onward a b (Some (flows.Jump target)) is from has reached among = targeted a b (flows.Jump target) is from reached among
  onward a b (Some (flows.Call target fall)) is from has reached among =
      targeted a b (flows.Call target fall) is from reached (Contains-later target (targets_at map a) b among)
  onward a b (Some (flows.IndirectCall fall)) is from has reached among =
      ⊎_elim
      (λ falls. fallen a b (flows.IndirectCall fall) is from reached (among_fall fall b falls))
      (λ lands. targeted a b (flows.IndirectCall fall) is from reached lands)
      (Contains-append_cases (option_to_list fall) (targets_at map a) b among)
  onward a b (Some (flows.Table entries full is_open)) is from has reached among = targeted a b (flows.Table entries full is_open) is from reached among
  onward a b (Some flows.Return) is from has reached among = absurd (Contains-none b among)
  onward a b (Some flows.Unknown) is from has reached among = absurd (Contains-none b among)
  onward a b (Some flows.Stop) is from has reached among = absurd (Contains-none b among)

  has_block : {a : ℕ} → Reached map seeds a → HasABlock map seeds blocks a
  has_block (Reached.seed {a = a} among) = at_start a (Reached.seed among) (StartsBlock.seed among)
  has_block (Reached.onward {a = a} {b = b} from way) = onward a b (flow_at map a) refl from (has_block from) (Reached.onward from way) way
  has_block (Reached.called {a = a} {target = target} {fall = fall} from calls) =
      targeted a target (flows.Call target fall) calls from (Reached.called from calls) (Contains-here target (targets_at map a))
  has_block (Reached.past_call {fall = fall} from calls returns) =
      at_start fall (Reached.past_call from calls returns) (StartsBlock.past_call from calls returns)

pub each_address_has_a_block : EachAddressHasABlock
each_address_has_a_block map seeds blocks edges lawful are outline a reached = has_block map seeds blocks lawful are outline.all_blocks reached

-- No two runs of leaders share an address: where they would join, a leader stands.

-- a run by its last step: k is the start, or is gone on to from the address before it, and no leader
data RunsBack (map : InstructionMap) (IsCut : ℕ → Type 0) (s : ℕ) : ℕ → Type 0 where
  here : RunsBack map IsCut s s
  on : {k next : ℕ} → RunsBack map IsCut s k → GoesOnTo map k next → ¬ IsCut next → RunsBack map IsCut s next

run_back : {map : InstructionMap} {IsCut : ℕ → Type 0} {s k : ℕ} (from : ℕ) → RunsBack map IsCut from s → RunsTo map IsCut s k → RunsBack map IsCut from k
run_back from before RunsTo.here = before
run_back from before (RunsTo.on goes none rest) = run_back from (RunsBack.on before goes none) rest

run_again : {map : InstructionMap} {IsCut : ℕ → Type 0} {s k : ℕ} → RunsBack map IsCut s k → RunsTo map IsCut s k
run_again RunsBack.here = RunsTo.here
run_again {map} {IsCut} {s} (RunsBack.on {k = k} {next = next} before goes none) = run_step map IsCut s k next (run_again before) goes none

one_start : {map : InstructionMap} {seeds : List ℕ} {s t a : ℕ} → IsLawful map → IsLeader map seeds s → IsLeader map seeds t → RunsBack map (IsLeader map seeds) s a → RunsBack map (IsLeader map seeds) t a → s ≡ t
one_start lawful first second RunsBack.here RunsBack.here = refl
one_start lawful first second RunsBack.here (RunsBack.on before goes none) = absurd (none first)
one_start lawful first second (RunsBack.on before goes none) RunsBack.here = absurd (none second)
one_start {map} {seeds} {t = t} lawful first second (RunsBack.on {k = k} {next = next} before goes none) (RunsBack.on {k = j} other way clear) =
    elim (cases_eq k j) [
      | inl e ↦ one_start lawful first second before (subst (RunsBack map (IsLeader map seeds) t) (sym e) other)
      | inr apart ↦ absurd (none (joined map seeds lawful k j next (reached_along first.reached (run_again before)) (reached_along second.reached (run_again other)) goes way apart))
    ]

pub blocks_are_apart : BlocksAreApart
blocks_are_apart map seeds blocks edges lawful outline one other listed also a lies too =
    let is : IsBlock map seeds one = outline.all_blocks.sound one listed in
    let are : IsBlock map seeds other = outline.all_blocks.sound other also in
    block_unique map seeds one other is are
    (one_start lawful is.1.leader are.1.leader (run_back one.start RunsBack.here lies) (run_back other.start RunsBack.here too))
