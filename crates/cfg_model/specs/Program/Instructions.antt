-- A program as a control-flow graph sees it: a finite map from addresses to instructions.
use Rattle.std.specs.Prelude.{◌≡◌, ℕ, ◌+◌, ◌<◌, ◌≤◌, ◌^◌, ◌⊎◌, List, [], ◌∷◌, ◌++◌}
use Rattle.std.specs.Prelude.{length, All, Option, Some, IsSome, option_to_list}
use Rattle.std.specs.Option.{option_map, option_map_or}
use Rattle.cfg_model.specs.declared.flow.Flow.{Flow}
use Rattle.cfg_model.specs.declared.flow.Flow.TheVariants.{Straight, Branch, Jump}
use Rattle.cfg_model.specs.declared.flow.Flow.TheVariants.{Call, IndirectCall, Table}

-- One instruction: its length in bytes, its flow, and its kept targets. Those of a table jump are
-- kept in the table, in its order; that of a call is its landing pad, where it goes on if the callee
-- throws.
pub record Instruction : Type 0 where
  pub bytes : ℕ
  pub flow : Flow
  pub targets : List ℕ

-- The instructions by address; none if no instruction stands.
abbrev pub InstructionMap : Type 0
InstructionMap = ℕ → Option Instruction

-- The flow of the instruction at an address.
abbrev pub flow_at : InstructionMap → ℕ → Option Flow
flow_at map a = option_map (λ i. i.flow) (map a)

-- Its length in bytes.
abbrev pub length_at : InstructionMap → ℕ → Option ℕ
length_at map a = option_map (λ i. i.bytes) (map a)

-- Its kept targets; none but at a table jump or a call.
abbrev pub targets_at : InstructionMap → ℕ → List ℕ
targets_at map a = option_map_or (λ i. i.targets) (map a) []

-- The addresses that a flow names: its next address, its target, its ways, its fall.
abbrev pub named_by : Flow → List ℕ
named_by (Straight next) = next ∷ []
named_by (Branch taken fall) = option_to_list taken ++ option_to_list fall
named_by (Jump target) = target ∷ []
named_by (Call target fall) = target ∷ option_to_list fall
named_by (IndirectCall fall) = option_to_list fall
named_by _ = []

-- A straight instruction goes on right after itself. A table jump keeps the number of targets that
-- it says, one at least. A call has one landing pad at most. No other instruction has kept targets.
abbrev pub FlowFits : ℕ → Instruction → Flow → Type 0
FlowFits a i (Straight next) = (next ≡ a + i.bytes) × (i.targets ≡ [])
FlowFits a i (Call target fall) = length i.targets ≤ 1
FlowFits a i (IndirectCall fall) = length i.targets ≤ 1
FlowFits a i (Table entries full is_open) = (entries ≡ length i.targets) × (0 < entries)
FlowFits a i _ = i.targets ≡ []

-- What holds of each instruction of a program. It has 2 or 4 bytes and ends within 64 bits. Its
-- flow fits it. Every address that it names or keeps is that of an instruction.
pub record IsLawfulAt (map : InstructionMap) (a : ℕ) (i : Instruction) : Type 0 where
  pub size : (i.bytes ≡ 2) ⊎ (i.bytes ≡ 4)
  pub ends : a + i.bytes < 2 ^ 64
  pub fits : FlowFits a i i.flow
  pub named : All (λ b. IsSome (map b)) (named_by i.flow)
  pub kept : All (λ b. IsSome (map b)) i.targets

abbrev pub IsLawful : InstructionMap → Type 0
IsLawful map = (a : ℕ) (i : Instruction) → map a ≡ Some i → IsLawfulAt map a i
