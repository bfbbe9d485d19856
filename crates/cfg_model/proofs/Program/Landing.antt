-- A call leads to its landing pad.
use Rattle.std.proofs.Common.{◌≡◌, ℕ, List, Option, Some, None, Contains, IsSome, option_to_list, refl, sym, subst}
use Rattle.std.proofs.lemmas.List.Elements.{Contains-append_right}
use Rattle.cfg_model.specs.declared.flow.Flow.{Flow}
use Rattle.cfg_model.specs.declared.flow.Flow.TheVariants.{Straight, Branch, Jump, Call, IndirectCall, Table, Return, Unknown, Stop}
use Rattle.cfg_model.specs.Program.Instructions.{InstructionMap, flow_at, targets_at}
use Rattle.cfg_model.proofs.Program.Code.{flow_stands}
use Rattle.cfg_model.specs.Program.Chain.{EndsChain}
use Rattle.cfg_model.specs.Graph.Leader.{targets_by}
use Rattle.cfg_model.proofs.Program.Listed.{tail_in}
use Rattle.cfg_model.specs.Program.Successors.{IsSuccessor, Calls, MayLand, successors_of_flow}

-- a call has a flow
pub flow_of_call : (o : Option Flow) → Calls o → (flow : Flow) × (o ≡ Some flow) × Calls (Some flow)
flow_of_call None calls = absurd calls
flow_of_call (Some flow) calls = (flow, refl, calls)

pub call_stands : (o : Option Flow) → Calls o → IsSome o
call_stands None calls = absurd calls
call_stands (Some flow) calls = refl

pub call_at : (map : InstructionMap) (k : ℕ) → MayLand map k → IsSome (map k)
call_at map k calls = let flow = flow_of_call (flow_at map k) calls in flow_stands map k flow.0 flow.1

-- it ends its chain
pub call_ends : (o : Option Flow) → Calls o → EndsChain o
call_ends None calls = absurd calls
call_ends (Some (Straight next)) calls = absurd calls
call_ends (Some (Branch taken fall)) calls = absurd calls
call_ends (Some (Jump target)) calls = absurd calls
call_ends (Some (Call target fall)) calls = tt
call_ends (Some (IndirectCall fall)) calls = tt
call_ends (Some (Table entries full is_open)) calls = absurd calls
call_ends (Some Return) calls = absurd calls
call_ends (Some Unknown) calls = absurd calls
call_ends (Some Stop) calls = absurd calls

-- and its landing pad is among its successors
pub pad_follows : (kept : List ℕ) (o : Option Flow) (to : ℕ) → Calls o → Contains kept to → Contains (successors_of_flow kept o) to
pad_follows kept None to calls among = absurd calls
pad_follows kept (Some (Straight next)) to calls among = absurd calls
pad_follows kept (Some (Branch taken fall)) to calls among = absurd calls
pad_follows kept (Some (Jump target)) to calls among = absurd calls
pad_follows kept (Some (Call target fall)) to calls among = among
pad_follows kept (Some (IndirectCall fall)) to calls among = Contains-append_right (option_to_list fall) kept to among
pad_follows kept (Some (Table entries full is_open)) to calls among = absurd calls
pad_follows kept (Some Return) to calls among = absurd calls
pad_follows kept (Some Unknown) to calls among = absurd calls
pad_follows kept (Some Stop) to calls among = absurd calls

pub landing_follows : (map : InstructionMap) (k to : ℕ) → MayLand map k → Contains (targets_at map k) to → IsSuccessor map k to
landing_follows map k to calls among = pad_follows (targets_at map k) (flow_at map k) to calls among

-- a call of a known address, or one through a register, may land
pub may_land : (map : InstructionMap) (k : ℕ) (flow : Flow) → flow_at map k ≡ Some flow → Calls (Some flow) → MayLand map k
may_land map k flow is calls = subst Calls (sym is) calls

-- control is sent to it
pub pad_sent : (kept : List ℕ) (flow : Flow) (to : ℕ) → Calls (Some flow) → Contains kept to → Contains (targets_by kept flow) to
pad_sent kept (Straight next) to calls among = absurd calls
pad_sent kept (Branch taken fall) to calls among = absurd calls
pad_sent kept (Jump target) to calls among = absurd calls
pad_sent kept (Call target fall) to calls among = tail_in target to kept among
pad_sent kept (IndirectCall fall) to calls among = among
pad_sent kept (Table entries full is_open) to calls among = absurd calls
pad_sent kept Return to calls among = absurd calls
pad_sent kept Unknown to calls among = absurd calls
pad_sent kept Stop to calls among = absurd calls
