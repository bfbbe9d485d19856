-- What is asked and told of the target of a call.
use Rattle.std.proofs.Common.{◌≡◌, ℕ, Bool, List, Option, Some, sym, ◌∙◌, subst}
use Rattle.std.specs.Prelude.{◌↔◌, IsTrue}
use Rattle.cfg_model.specs.declared.flow.Flow.{Flow}
use Rattle.cfg_model.specs.declared.flow.Flow.TheVariants.{Straight, Branch, Jump, Call, IndirectCall, Table, Return, Unknown, Stop}
use Rattle.cfg_model.specs.Program.Instructions.{InstructionMap, flow_at}
use Rattle.cfg_model.specs.Program.Reach.{Reached}
use Rattle.cfg_model.specs.Program.Status.{Returns}
use Rattle.cfg_model.specs.Program.Successors.{IsCall}
use Rattle.reached_graph.specs.Inner.Ways.{IfCalls, TellsReached}

same_flow : (flow : Flow) (target : ℕ) (fall : Option ℕ) → Some flow ≡ Some (Call target fall) → flow ≡ Call target fall
same_flow flow target fall e = cc

module _ (map : InstructionMap) (seeds : List ℕ) (Asks : ℕ → Type 0) (Answers : ℕ → Bool → Type 0) (tells : TellsReached map seeds Asks Answers) (k : ℕ) (reached : Reached map seeds k) where
  -- the target of a reached call may be asked for
  pub asks_callee : (flow : Flow) → flow_at map k ≡ Some flow → IfCalls flow Asks
  asks_callee (Straight next) is = tt
  asks_callee (Branch taken fall) is = tt
  asks_callee (Jump target) is = tt
  asks_callee (Call target fall) is = tells.asks target (Reached.called reached is)
  asks_callee (IndirectCall fall) is = tt
  asks_callee (Table entries full is_open) is = tt
  asks_callee Return is = tt
  asks_callee Unknown is = tt
  asks_callee Stop is = tt

  -- and what is told of it is right
  pub tells_callee : (flow : Flow) → flow_at map k ≡ Some flow → (answer : Bool) → IfCalls flow (λ target. Answers target answer) → (target : ℕ) (fall : Option ℕ) → IsCall map k target fall → IsTrue answer ↔ Returns map target
  tells_callee flow is answer told target fall call =
      tells.tells target answer (Reached.called reached call)
      (subst (λ f. IfCalls f (λ t. Answers t answer)) (same_flow flow target fall (sym is ∙ call)) told)
