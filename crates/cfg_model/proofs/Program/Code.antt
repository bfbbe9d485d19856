-- What a lawful program says of one instruction.
use Rattle.std.proofs.Common.{◌≡◌, ℕ, [], length, Option, Some, None, Bool, refl, sym, ap, ◌∙◌, subst}
use Rattle.std.specs.Option.{option_map, option_map_or, is_some, IsSome}
use Rattle.cfg_model.specs.declared.flow.Flow.{Flow}
use Rattle.cfg_model.specs.declared.flow.Flow.TheVariants.{Table}
use Rattle.cfg_model.specs.Program.Instructions.{InstructionMap, Instruction, IsLawful, FlowFits, flow_at, targets_at}

pub option_map_some : {A B : Type 0} (f : A → B) (o : Option A) (y : B) → option_map f o ≡ Some y → (x : A) × (o ≡ Some x) × (f x ≡ y)
option_map_some f None y h = cc
option_map_some f (Some x) y h = (x, refl, cc)

-- the instruction whose flow is known
pub at_flow : (map : InstructionMap) (k : ℕ) (flow : Flow) → flow_at map k ≡ Some flow → (i : Instruction) × (map k ≡ Some i) × (i.flow ≡ flow)
at_flow map k flow h = option_map_some (λ i. i.flow) (map k) flow h

-- an instruction stands where a flow is known
pub flow_stands : (map : InstructionMap) (k : ℕ) (flow : Flow) → flow_at map k ≡ Some flow → IsSome (map k)
flow_stands map k flow h = ap (λ o. is_some o) (at_flow map k flow h).1

pub kept_targets : (map : InstructionMap) (k : ℕ) (i : Instruction) → map k ≡ Some i → targets_at map k ≡ i.targets
kept_targets map k i is = ap (λ o. option_map_or (λ i. i.targets) o []) is

-- a table jump keeps as many targets as it says
pub table_entries : (map : InstructionMap) (k entries : ℕ) (full is_open : Bool) → IsLawful map → flow_at map k ≡ Some (Table entries full is_open) → entries ≡ length (targets_at map k)
table_entries map k entries full is_open lawful h =
    let i = at_flow map k (Table entries full is_open) h in
    let fits = subst (FlowFits k i.0) i.2 (lawful k i.0 i.1).fits in
    fits.0 ∙ sym (ap length (kept_targets map k i.0 i.1))
