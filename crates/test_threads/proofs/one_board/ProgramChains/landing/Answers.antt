use Rattle.std.proofs.Common.{◌≡◌, Bool, true, false, ◌==◌, cond, List, [], ◌∷◌, ℕ, Option, Some, None, refl, sym, subst}
use Rattle.std.specs.Prelude.{option_to_list}
use Rattle.std.specs.Option.{option_map}
use Rattle.std.specs.Bool.{then_some}
use Rattle.cfg_model.specs.declared.flow.Flow.TheVariants.{Return, Table, IndirectCall}
use Rattle.cfg_model.specs.Program.Instructions.{Instruction, targets_at}
use Rattle.cfg_model.specs.Program.Successors.{Calls, MayLand}
use Rattle.test_threads.specs.Sample.{return_and_table}
use Rattle.test_threads.proofs.one_board.ProgramChains.landing.Goals as goal

-- the instruction, by which of the three addresses it is
abbrev chosen : Bool → Bool → Bool → Option Instruction
chosen b c d =
    cond b (Some (record { bytes = 4; flow = Return; targets = [] }))
    (cond c (Some (record { bytes = 4; flow = Table 1 true false; targets = 0xC0 ∷ [] }))
    (cond d (Some (record { bytes = 4; flow = IndirectCall None; targets = 0xC0 ∷ [] })) None))

-- the only call lands at the return
lands : (a : ℕ) → MayLand return_and_table a → targets_at return_and_table a ≡ option_to_list (then_some (a == 0x1C0) 0xC0)
lands a calls = by (a == 0xC0) (a == 0x140) (a == 0x1C0) calls
  where
    by : (b c d : Bool) → Calls (option_map (λ (i : Instruction). i.flow) (chosen b c d)) → targets_at (λ _. chosen b c d) a ≡ option_to_list (then_some d 0xC0)
    by true c d calls = absurd calls
    by false true d calls = absurd calls
    by false false true calls = refl
    by false false false calls = absurd calls

pub returns-clause-landing : goal.returns-clause-landing
returns-clause-landing c =
    subst (λ r. targets_at return_and_table c.args.a ≡ option_to_list r) (sym c.then_some.ensures) (lands c.args.a c.requires)
