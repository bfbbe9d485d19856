-- A flow that does not go straight on ends a chain.
use Rattle.std.proofs.Common.{◌≡◌, ℕ, refl, subst, sym}
use Rattle.std.specs.Prelude.{Some}
use Rattle.cfg_model.specs.declared.flow.Flow.{Flow}
use Rattle.cfg_model.specs.declared.flow.Flow.TheVariants.{Straight, Branch, Jump, Call, IndirectCall, Table, Return, Unknown, Stop}
use Rattle.cfg_model.specs.Program.Chain.{EndsChain, IsTerminator}
use Rattle.cfg_model.specs.Program.Instructions.{InstructionMap, flow_at}

not_straight : (flow : Flow) → ((next : ℕ) → flow ≡ Straight next → ⊥) → EndsChain (Some flow)
not_straight (Straight next) other = absurd (other next refl)
not_straight (Branch taken fall) other = tt
not_straight (Jump target) other = tt
not_straight (Call target fall) other = tt
not_straight (IndirectCall fall) other = tt
not_straight (Table entries full is_open) other = tt
not_straight Return other = tt
not_straight Unknown other = tt
not_straight Stop other = tt

-- so it is the flow of a terminator, in the map that the program's code means
pub ends_chain_at : (map job : InstructionMap) (k : ℕ) (flow : Flow) → map ≡ job → flow_at map k ≡ Some flow
    → ((next : ℕ) → flow ≡ Straight next → ⊥) → IsTerminator job k
ends_chain_at map job k flow same found other =
    subst EndsChain (sym (subst (λ (m : InstructionMap). flow_at m k ≡ Some flow) same found)) (not_straight flow other)
