use Rattle.std.proofs.Common.{◌≡◌, ◌==◌, ℕ, Some, refl, sym, subst}
use Rattle.std.specs.Prelude.{option_to_list}
use Rattle.std.specs.Bool.{then_some}
use Rattle.cfg_model.specs.Program.Instructions.{Instruction, flow_at, targets_at}
use Rattle.cfg_model.specs.Program.Successors.{Calls, MayLand}
use Rattle.cfg_model.proofs.Program.Code.{at_flow}
use Rattle.cfg_model.proofs.Program.Landing.{flow_of_call}
use Rattle.cfg_model.proofs.Worked.Rows.{each_placed}
use Rattle.test_graph.specs.StateRow.{row_23, row_23_code}
use Rattle.test_graph.proofs.state_program.ProgramChains.landing.Goals as goal

-- the only call lands at the first instruction
abbrev Lands : ℕ → Instruction → Type 0
Lands a i = Calls (Some i.flow) → targets_at row_23 a ≡ option_to_list (then_some (a == 0x20004) 0x10000)

each_lands : (a : ℕ) (i : Instruction) → row_23 a ≡ Some i → Lands a i
each_lands = each_placed Lands row_23_code ((λ h. absurd h), ((λ h. absurd h), ((λ h. absurd h), ((λ h. absurd h), ((λ h. absurd h), ((λ h. refl), ((λ h. absurd h), ((λ h. absurd h), tt))))))))

lands : (a : ℕ) → MayLand row_23 a → targets_at row_23 a ≡ option_to_list (then_some (a == 0x20004) 0x10000)
lands a calls =
    let flow = flow_of_call (flow_at row_23 a) calls in
    let i = at_flow row_23 a flow.0 flow.1 in
    each_lands a i.0 i.1 (subst (λ f. Calls (Some f)) (sym i.2) flow.2)

pub returns-clause-landing : goal.returns-clause-landing
returns-clause-landing c =
    subst (λ r. targets_at row_23 c.args.a ≡ option_to_list r) (sym c.then_some.ensures) (lands c.args.a c.requires)
