-- The text of a walk, step by step.
use Rattle.std.proofs.Common.{◌≡◌, ℕ, suc, Bool, true, false, cond, List, ◌++◌, Option, Some, None, sym, ap, ◌∙◌, append_assoc, append-nil}
use Rattle.std.proofs.lemmas.Option.{same_Some, none-some}
use Rattle.cfg_model.specs.declared.graph.Block.{Block}
use Rattle.cfg_model.specs.declared.graph.Edge.{Edge}
use Rattle.rv_flow.specs.declared.placed.Placed.{Placed}
use Rattle.rv_machine.specs.declared.trap.Stepped.TheVariants as steps
use Rattle.rv_machine.specs.declared.trap.Trap.{Trap}
use Rattle.rv_machine.specs.State.{State}
use Rattle.rv_machine.specs.Memory.{Bytes}
use Rattle.rv_machine.specs.Step.{Outcome, Traps, Goes, answer_of, state_after, memory_after}
use Rattle.edge_cover.specs.Move.{move_in}
use Rattle.walk_trace.specs.Lines.{trap_line}
use Rattle.walk_trace.specs.Trace.{Walk, Printed, moved, next_of, stepped, steps_on}

module _ (bytes : List ℕ) (blocks : List Block) (edges : List Edge) (walk : Walk) (left fewer : ℕ) (one : left ≡ suc fewer) (text more : List ℕ) (told : more ≡ text ++ (stepped bytes blocks edges walk).text) where
  -- a step that is printed, and the steps after it
  pub step_told : (next : Option Walk) → next ≡ (stepped bytes blocks edges walk).walk → more ++ steps_on bytes blocks edges next fewer ≡ text ++ steps_on bytes blocks edges (Some walk) left
  step_told next goes =
      rw (one, told, goes) (append_assoc text (stepped bytes blocks edges walk).text (steps_on bytes blocks edges (stepped bytes blocks edges walk).walk fewer))

  -- a step that is printed and ends the walk
  pub last_told : None ≡ (stepped bytes blocks edges walk).walk → more ≡ text ++ steps_on bytes blocks edges (Some walk) left
  last_told ends = sym (append-nil more) ∙ step_told None ends

-- ---- what one step prints

module _ (bytes : List ℕ) (blocks : List Block) (edges : List Edge) (walk : Walk) where
  -- what is printed of a step that ends so
  abbrev pub printed_by : Outcome → Printed
  printed_by o = elim o [
    | Traps trap ↦ record { text = trap_line trap; walk = None }
    | Goes state memory ↦
        moved blocks (move_in walk.block edges (next_of bytes walk.state) state.pc)
        (record walk { state = state; memory = memory })
  ]

  -- of one that goes on
  pub goes_told : (o : Outcome) (next : ℕ) (after : State) (left : Bytes) → steps.Next ≡ answer_of o → next ≡ next_of bytes walk.state → after ≡ state_after o walk.state → left ≡ memory_after o walk.memory
      → printed_by o ≡ moved blocks (move_in walk.block edges next after.pc) (record walk { state = after; memory = left })
  goes_told (Traps trap) next after left goes at state memory = absurd cc
  goes_told (Goes other found) next after left goes at state memory =
      ap (λ n. moved blocks (move_in walk.block edges n other.pc) (record walk { state = other; memory = found })) (sym at)
      ∙ ap (λ (s : State). moved blocks (move_in walk.block edges next s.pc) (record walk { state = s; memory = found })) (sym state)
      ∙ ap (λ (m : Bytes). moved blocks (move_in walk.block edges next after.pc) (record walk { state = after; memory = m })) (sym memory)

  -- of one that traps
  pub trap_told : (o : Outcome) (trap : Trap) → steps.Trap trap ≡ answer_of o → printed_by o ≡ record { text = trap_line trap; walk = None }
  trap_told (Traps other) trap traps = let same : other ≡ trap = cc in ap (λ (t : Trap). printed_by (Traps t)) same
  trap_told (Goes state memory) trap traps = absurd cc

-- an instruction that is there is this one
pub placed_is : (b : Bool) (placed other : Placed) → Some placed ≡ cond b (Some other) None → placed ≡ other
placed_is true placed other is = same_Some placed other is
placed_is false placed other is = absurd (none-some placed (sym is))
