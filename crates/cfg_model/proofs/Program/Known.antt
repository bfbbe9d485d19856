-- What a lawful program leads to is the address of an instruction.
use Rattle.std.proofs.Common.{◌≡◌, ℕ, List, [], ◌∷◌, ◌++◌, length, Contains, All, Option, Some, None, IsSome, Bool, option_to_list, refl, sym, subst, ⊎_elim}
use Rattle.std.specs.Option.{option_map, option_map_or}
use Rattle.std.proofs.lemmas.List.Elements.{All-contains, Contains-append_cases}
use Rattle.cfg_model.specs.declared.flow.Flow.{Flow}
use Rattle.cfg_model.specs.declared.flow.Flow.TheVariants.{Straight, Branch, Jump, Call, IndirectCall, Table, Return, Unknown, Stop}
use Rattle.cfg_model.specs.Program.Instructions.{Instruction, InstructionMap, IsLawful, IsLawfulAt, FlowFits, flow_at, targets_at, named_by}
use Rattle.cfg_model.specs.Program.Successors.{IsSuccessor, IsCall, successors_by, successors_of_flow}
use Rattle.cfg_model.specs.Program.Reach.{Reached}
use Rattle.cfg_model.specs.Graph.Block.{RunsTo}
use Rattle.cfg_model.proofs.Program.Listed.{none_in, head_in, tail_in}

flow_inverted :
    (m : Option Instruction) (flow : Flow) → option_map (λ i. i.flow) m ≡ Some flow →
    (i : Instruction) × (m ≡ Some i) × (i.flow ≡ flow)
flow_inverted None flow e = cc
flow_inverted (Some i) flow e = (i, refl, (cc))

-- the addresses that a flow leads to, whatever returns, are those of instructions
successors_known :
    (P : ℕ → Type 0) (kept : List ℕ) (flow : Flow) → All P (named_by flow) → All P kept →
    (b : ℕ) → Contains (successors_by kept flow) b → P b
successors_known P kept (Straight next) named all b h = All-contains P (next ∷ []) b named h
successors_known P kept (Branch taken fall) named all b h =
    All-contains P (option_to_list taken ++ option_to_list fall) b named h
successors_known P kept (Jump target) named all b h = All-contains P (target ∷ []) b named h
successors_known P kept (Call target fall) named all b h = All-contains P kept b all h
successors_known P kept (IndirectCall fall) named all b h =
    ⊎_elim (λ falls. All-contains P (option_to_list fall) b named falls) (λ lands. All-contains P kept b all lands)
    (Contains-append_cases (option_to_list fall) kept b h)
successors_known P kept (Table entries full is_open) named all b h = All-contains P kept b all h
successors_known P kept Return named all b h = absurd (none_in b h)
successors_known P kept Unknown named all b h = absurd (none_in b h)
successors_known P kept Stop named all b h = absurd (none_in b h)

named_known :
    (map : InstructionMap) → IsLawful map → (a : ℕ) (flow : Flow) → flow_at map a ≡ Some flow →
    All (λ b. IsSome (map b)) (named_by flow)
named_known map lawful a flow e =
    let h = flow_inverted (map a) flow e in
    subst (λ (f : Flow). All (λ b. IsSome (map b)) (named_by f)) h.2 (lawful a h.0 h.1).named

known_at :
    (map : InstructionMap) → IsLawful map → (a : ℕ) (m : Option Instruction) → map a ≡ m → (b : ℕ) →
    Contains (successors_of_flow (option_map_or (λ i. i.targets) m []) (option_map (λ i. i.flow) m)) b →
    IsSome (map b)
known_at map lawful a None e b h = absurd (none_in b h)
known_at map lawful a (Some i) e b h =
    let at : IsLawfulAt map a i = lawful a i e in
    successors_known (λ c. IsSome (map c)) i.targets i.flow at.named at.kept b h

-- a successor is the address of an instruction
pub successor_known : (map : InstructionMap) → IsLawful map → (a b : ℕ) → IsSuccessor map a b → IsSome (map b)
successor_known map lawful a b s = known_at map lawful a (map a) refl b s

-- so are the target of a call, and its fall
pub target_known : (map : InstructionMap) → IsLawful map → (a target : ℕ) {fall : Option ℕ} → IsCall map a target fall → IsSome (map target)
target_known map lawful a target {fall = fall} c =
    All-contains (λ x. IsSome (map x)) (target ∷ option_to_list fall) target
    (named_known map lawful a (Call target fall) c) (head_in target (option_to_list fall))

pub fall_known : (map : InstructionMap) → IsLawful map → (a target fall : ℕ) → IsCall map a target (Some fall) → IsSome (map fall)
fall_known map lawful a target fall c =
    All-contains (λ x. IsSome (map x)) (target ∷ fall ∷ []) fall
    (named_known map lawful a (Call target (Some fall)) c) (tail_in target fall (fall ∷ []) (head_in fall []))

-- a table jump has as many kept targets as it says
pub entries_kept :
    (map : InstructionMap) → IsLawful map → (a entries : ℕ) (full is_open : Bool) →
    flow_at map a ≡ Some (Table entries full is_open) → entries ≡ length (targets_at map a)
entries_kept map lawful a entries full is_open e =
    let h = flow_inverted (map a) (Table entries full is_open) e in
    let fits : FlowFits a h.0 (Table entries full is_open) =
    subst (λ (f : Flow). FlowFits a h.0 f) h.2 (lawful a h.0 h.1).fits in
    rw h.1 fits.0

pub successor_from_flow :
    (map : InstructionMap) (a : ℕ) (flow : Flow) → flow_at map a ≡ Some flow → (b : ℕ) →
    Contains (successors_by (targets_at map a) flow) b → IsSuccessor map a b
successor_from_flow map a flow e b h =
    subst (λ (o : Option Flow). Contains (successors_of_flow (targets_at map a) o) b) (sym e) h

pub successor_to_flow :
    (map : InstructionMap) (a : ℕ) (flow : Flow) → flow_at map a ≡ Some flow → (b : ℕ) →
    IsSuccessor map a b → Contains (successors_by (targets_at map a) flow) b
successor_to_flow map a flow e b h =
    subst (λ (o : Option Flow). Contains (successors_of_flow (targets_at map a) o) b) e h

-- a block of a reached address is reached
pub reached_along : {map : InstructionMap} {seeds : List ℕ} {IsCut : ℕ → Type 0} {s k : ℕ} → Reached map seeds s → RunsTo map IsCut s k → Reached map seeds k
reached_along r RunsTo.here = r
reached_along {map = map} r (RunsTo.on {s = s} {next = next} goes none rest) =
    reached_along (Reached.onward r (successor_from_flow map s (Straight next) goes next (head_in next []))) rest
