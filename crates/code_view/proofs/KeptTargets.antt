-- What an instruction keeps: the targets of its table, or its landing pad.
use Rattle.std.proofs.Common.{◌≡◌, ℕ, ◌+◌, ◌<◌, ◌^◌, true, List, [], take, Option, Some, None, refl, sym, ap, ◌∙◌, subst}
use Rattle.std.specs.Prelude.{option_to_list}
use Rattle.std.specs.Option.{option_and_then}
use Rattle.std.proofs.lemmas.Option.{none-some}
use Rattle.elf_image.specs.Code.{is_code, section_start}
use Rattle.rv_flow.specs.declared.raw.RawFlow.{RawFlow}
use Rattle.rv_flow.specs.declared.raw.RawFlow.TheVariants as raw
use Rattle.rv_flow.specs.Placed.{placed_at}
use Rattle.rv_flow.specs.Raw.{raw_flow_at}
use Rattle.jump_table.specs.declared.table.Table.{Table}
use Rattle.jump_table.specs.Table.{table_at, table_targets, table_through, jump_register}
use Rattle.cfg_model.specs.declared.flow.Flow.{Flow}
use Rattle.cfg_model.specs.declared.flow.Flow.TheVariants as flows
use Rattle.cfg_model.specs.Program.Instructions.{IsLawful, flow_at, targets_at}
use Rattle.cfg_model.specs.Program.Successors.{Calls, MayLand}
use Rattle.code_view.specs.Flow.{in_code, straight_flow, jump_flow, call_flow, call_fall, pad_behind, table_flow, flow_by, kept_by, kept_entries}
use Rattle.code_view.specs.Program.{instruction_at, program_under}
use Rattle.code_view.proofs.Lawful.{flow-program, targets-program, program-at_code}

-- ---- by the flow of the instruction alone

module _ (bytes : List ℕ) (behind : ℕ) (cut : Option ℕ) (table : Option Table) where
  straight-calls : (o : Option ℕ) → Calls (Some (straight_flow o)) → ⊥
  straight-calls None calls = calls
  straight-calls (Some next) calls = calls

  jump-calls : (o : Option ℕ) → Calls (Some (jump_flow o)) → ⊥
  jump-calls None calls = calls
  jump-calls (Some target) calls = calls

  table-calls : (o : Option Table) → Calls (Some (table_flow cut o)) → ⊥
  table-calls None calls = calls
  table-calls (Some t) calls = calls

  call-calls : (o fall : Option ℕ) → Calls (Some (call_flow o fall))
  call-calls None fall = tt
  call-calls (Some target) fall = tt

  -- a call keeps its landing pad
  pad-kept : (r : RawFlow) → Calls (Some (flow_by bytes behind cut table r)) → kept_by bytes behind cut table r ≡ option_to_list (pad_behind bytes behind)
  pad-kept raw.Straight calls = absurd (straight-calls (in_code bytes behind) calls)
  pad-kept (raw.Branch target) calls = absurd calls
  pad-kept (raw.Jump target) calls = absurd (jump-calls (in_code bytes target) calls)
  pad-kept (raw.Call target) calls = refl
  pad-kept raw.IndirectCall calls = refl
  pad-kept raw.Return calls = absurd calls
  pad-kept raw.Unknown calls = absurd calls
  pad-kept (raw.RegisterJump register offset) calls = absurd (table-calls table calls)
  pad-kept raw.Stop calls = absurd calls

  -- what is no call, and has no table, keeps nothing
  none-kept : (r : RawFlow) → table ≡ None → (Calls (Some (flow_by bytes behind cut table r)) → ⊥) → kept_by bytes behind cut table r ≡ []
  none-kept raw.Straight none other = refl
  none-kept (raw.Branch target) none other = refl
  none-kept (raw.Jump target) none other = refl
  none-kept (raw.Call target) none other = absurd (other (call-calls (in_code bytes target) (call_fall bytes target behind)))
  none-kept raw.IndirectCall none other = absurd (other tt)
  none-kept raw.Return none other = refl
  none-kept raw.Unknown none other = refl
  none-kept (raw.RegisterJump register offset) none other = ap (λ (o : Option Table). kept_by bytes behind cut o (raw.RegisterJump register offset)) none
  none-kept raw.Stop none other = refl

-- a flow that is no call
pub no-call : (f : Flow) → ((target : ℕ) (fall : Option ℕ) → f ≡ flows.Call target fall → ⊥) → ((fall : Option ℕ) → f ≡ flows.IndirectCall fall → ⊥) → Calls (Some f) → ⊥
no-call (flows.Straight next) call indirect calls = calls
no-call (flows.Branch taken fall) call indirect calls = calls
no-call (flows.Jump target) call indirect calls = calls
no-call (flows.Call target fall) call indirect calls = call target fall refl
no-call (flows.IndirectCall fall) call indirect calls = indirect fall refl
no-call (flows.Table entries full is_open) call indirect calls = calls
no-call flows.Return call indirect calls = calls
no-call flows.Unknown call indirect calls = calls
no-call flows.Stop call indirect calls = calls

-- ---- a jump with a table

module _ (bytes : List ℕ) (a behind : ℕ) (cut : Option ℕ) (table : Table) where
  abbrev table_by : RawFlow → Option ℕ → Option Table
  table_by raw start = option_and_then (λ start. option_and_then (table_through bytes start a) (jump_register raw)) start

  none-by : (r : RawFlow) → jump_register r ≡ None → (start : Option ℕ) → table_by r start ≡ None
  none-by r none None = refl
  none-by r none (Some start) = ap (λ r. option_and_then (table_through bytes start a) r) none

  abbrev Kept : RawFlow → Option Table → Type 0
  Kept r o = kept_by bytes behind cut o r ≡ take (kept_entries cut table) (table_targets bytes table)

  has-none : (r : RawFlow) → jump_register r ≡ None → (start : Option ℕ) → table_by r start ≡ Some table → Kept r (table_by r start)
  has-none r none start is = absurd (none-some table (sym (none-by r none start) ∙ is))

  -- Only a jump through a register has a table, and it keeps the first targets of it.
  table-kept : (r : RawFlow) (start : Option ℕ) → table_by r start ≡ Some table → Kept r (table_by r start)
  table-kept raw.Straight start is = has-none raw.Straight refl start is
  table-kept (raw.Branch target) start is = has-none (raw.Branch target) refl start is
  table-kept (raw.Jump target) start is = has-none (raw.Jump target) refl start is
  table-kept (raw.Call target) start is = has-none (raw.Call target) refl start is
  table-kept raw.IndirectCall start is = has-none raw.IndirectCall refl start is
  table-kept raw.Return start is = has-none raw.Return refl start is
  table-kept raw.Unknown start is = has-none raw.Unknown refl start is
  table-kept (raw.RegisterJump register offset) start is = ap (λ (o : Option Table). kept_by bytes behind cut o (raw.RegisterJump register offset)) is
  table-kept raw.Stop start is = has-none raw.Stop refl start is

module _ (bytes : List ℕ) (cuts : ℕ → Option ℕ) (a : ℕ) where
  -- An instruction of a lawful program ends within 64 bits.
  pub end-fits : IsLawful (program_under bytes cuts) → is_code bytes a ≡ true → a + (placed_at bytes a).length < 2 ^ 64
  unfolding instruction_at
  end-fits lawful code = (lawful a (instruction_at bytes (table_at bytes) cuts a) (program-at_code bytes cuts a code)).ends

module _ (bytes : List ℕ) (cuts : ℕ → Option ℕ) (a : ℕ) (code : is_code bytes a ≡ true) where
  -- A jump with a table keeps the first targets of it.
  pub targets-of-table : (table : Table) → table_at bytes a ≡ Some table → targets_at (program_under bytes cuts) a ≡ take (kept_entries (cuts a) table) (table_targets bytes table)
  unfolding table_at
  targets-of-table table is =
      targets-program bytes cuts a code ∙ table-kept bytes a (a + (placed_at bytes a).length) (cuts a) table (raw_flow_at bytes a) (section_start bytes a) is

  flow-here : flow_at (program_under bytes cuts) a ≡ Some (flow_by bytes (a + (placed_at bytes a).length) (cuts a) (table_at bytes a) (raw_flow_at bytes a))
  flow-here = flow-program bytes cuts a code (placed_at bytes a) refl

  -- A call keeps its landing pad.
  pub targets-of-call : MayLand (program_under bytes cuts) a → targets_at (program_under bytes cuts) a ≡ option_to_list (pad_behind bytes (a + (placed_at bytes a).length))
  targets-of-call calls =
      targets-program bytes cuts a code
      ∙ pad-kept bytes (a + (placed_at bytes a).length) (cuts a) (table_at bytes a) (raw_flow_at bytes a) (subst Calls flow-here calls)

  -- What is no call, and has no table, keeps nothing.
  pub targets-of-none : table_at bytes a ≡ None → (MayLand (program_under bytes cuts) a → ⊥) → targets_at (program_under bytes cuts) a ≡ []
  targets-of-none none other =
      targets-program bytes cuts a code
      ∙ none-kept bytes (a + (placed_at bytes a).length) (cuts a) (table_at bytes a) (raw_flow_at bytes a) none (λ calls. other (subst Calls (sym flow-here) calls))
