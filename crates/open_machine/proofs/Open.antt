-- The steps of the open machine that the written one makes, and those that its surroundings make.
use Rattle.std.proofs.Common.{◌≡◌, ℕ, ◌⊎◌, Bool, true, false, cond, List, Option, Some, None, refl, sym, ap, ◌∙◌, inl, inr}
use Rattle.std.proofs.lemmas.Bool.{and_parts}
use Rattle.rv_decode.specs.declared.instructions.Insn.{Insn}
use Rattle.rv_flow.specs.declared.placed.Placed.{Placed}
use Rattle.rv_flow.specs.Placed.{placed_at}
use Rattle.rv_flow.specs.Raw.{insn_flow}
use Rattle.rv_machine.specs.declared.cpu.Reserved.{Reserved}
use Rattle.rv_machine.specs.declared.trap.Trap.{Trap}
use Rattle.rv_machine.specs.Registers.{RegisterFile}
use Rattle.rv_machine.specs.State.{State}
use Rattle.rv_machine.specs.Step.{step_of}
use Rattle.rv_machine.specs.Step as machine
use Rattle.open_machine.specs.World.{World, with_memory}
use Rattle.open_machine.specs.Asked.{Reply, Stops, Answers, Surroundings, no_surroundings}
use Rattle.open_machine.specs.Step.{Outcome, Ends, Goes, goes_straight, is_left, is_asked, question, answered_state, after_reply, asked_step, step_beyond, step_from, open_step}
use Rattle.open_machine.specs.Laws.{WrittenStepsAreOpen, AloneItIsTheWritten}

-- what an outcome that goes on leaves
abbrev pub state_of : State → Outcome → State
state_of otherwise (Ends trap) = otherwise
state_of otherwise (Goes after left) = after

abbrev pub world_of : World → Outcome → World
world_of otherwise (Ends trap) = otherwise
world_of otherwise (Goes after left) = left

-- a step of the surroundings
pub record IsAnswered (bytes : List ℕ) (surroundings : Surroundings) (state : State) (world : World) (after : State) (left : World) : Type 0 where
  pub insn : Insn
  pub trap : Trap
  pub values : RegisterFile
  pub reservation : Option Reserved
  pub traps : step_of bytes state world.memory ≡ machine.Traps trap
  pub stands : (placed_at bytes state.pc).insn ≡ Some insn
  pub is_left : is_left trap ≡ true
  pub straight : goes_straight (insn_flow bytes state.pc insn) ≡ true
  pub replied : surroundings world.hidden (question insn state world) ≡ Answers left values reservation
  pub after_is : after ≡ answered_state (placed_at bytes state.pc).length insn state values reservation

-- a step of the written machine
pub record IsWritten (bytes : List ℕ) (state : State) (world : World) (after : State) (left : World) : Type 0 where
  pub steps : step_of bytes state world.memory ≡ machine.Goes after left.memory
  pub hidden : left ≡ with_memory world left.memory

module _ (bytes : List ℕ) (surroundings : Surroundings) (state : State) (world : World) (after : State) (left : World) where
  replied_by : (length : ℕ) (insn : Insn) (trap : Trap) (reply : Reply) → after_reply length insn trap state reply ≡ Goes after left
      → (values : RegisterFile) × (reservation : Option Reserved) × (reply ≡ Answers left values reservation) × (after ≡ answered_state length insn state values reservation)
  replied_by length insn trap Stops e = cc
  replied_by length insn trap (Answers other values reservation) e =
      (values, reservation, ap (λ w. Answers w values reservation) (ap (world_of other) e), sym (ap (state_of after) e))

  asked_by : (placed : Placed) (insn : Insn) (trap : Trap) → asked_step bytes surroundings placed.length insn trap state world ≡ Goes after left
      → (is_asked bytes state.pc insn trap ≡ true) × (after_reply placed.length insn trap state (surroundings world.hidden (question insn state world)) ≡ Goes after left)
  asked_by placed insn trap e = by (is_asked bytes state.pc insn trap) refl e
    where
      by : (b : Bool) → is_asked bytes state.pc insn trap ≡ b → cond b (after_reply placed.length insn trap state (surroundings world.hidden (question insn state world))) (Ends trap) ≡ Goes after left
          → (is_asked bytes state.pc insn trap ≡ true) × (after_reply placed.length insn trap state (surroundings world.hidden (question insn state world)) ≡ Goes after left)
      by true is e = (is, e)
      by false is e = cc

  beyond : (placed : Placed) (o : Option Insn) (trap : Trap) → placed.insn ≡ o → step_beyond bytes surroundings (record placed { insn = o }) trap state world ≡ Goes after left
      → (insn : Insn) × (placed.insn ≡ Some insn) × (asked_step bytes surroundings placed.length insn trap state world ≡ Goes after left)
  beyond placed None trap is e = cc
  beyond placed (Some insn) trap is e = (insn, is, e)

  answered : (trap : Trap) → step_of bytes state world.memory ≡ machine.Traps trap → step_beyond bytes surroundings (placed_at bytes state.pc) trap state world ≡ Goes after left
      → IsAnswered bytes surroundings state world after left
  answered trap traps e =
      let at = beyond (placed_at bytes state.pc) (placed_at bytes state.pc).insn trap refl e in
      let asked = asked_by (placed_at bytes state.pc) at.0 trap at.2 in
      let parts = and_parts (is_left trap) (goes_straight (insn_flow bytes state.pc at.0)) asked.0 in
      let reply = replied_by (placed_at bytes state.pc).length at.0 trap (surroundings world.hidden (question at.0 state world)) asked.1 in
      record {
        insn = at.0;
        trap = trap;
        values = reply.0;
        reservation = reply.1;
        traps = traps;
        stands = at.1;
        is_left = parts.0;
        straight = parts.1;
        replied = reply.2;
        after_is = reply.3;
      }

  pub open_step_is : open_step bytes surroundings state world ≡ Goes after left
      → IsWritten bytes state world after left ⊎ IsAnswered bytes surroundings state world after left
  open_step_is e = by (step_of bytes state world.memory) refl e
    where
      by : (o : machine.Outcome) → step_of bytes state world.memory ≡ o → step_from bytes surroundings o state world ≡ Goes after left
          → IsWritten bytes state world after left ⊎ IsAnswered bytes surroundings state world after left
      by (machine.Goes next memory) is e = inl (record {
        steps = is ∙ ap (λ s. machine.Goes s memory) (ap (state_of next) e) ∙ ap (λ m. machine.Goes after m) (ap (λ (o : Outcome). (world_of (with_memory world memory) o).memory) e);
        hidden = sym (ap (world_of world) e) ∙ ap (λ (w : World). with_memory world w.memory) (ap (world_of world) e);
      })
      by (machine.Traps trap) is e = inr (answered trap is e)

pub written_steps_are_open : WrittenStepsAreOpen
written_steps_are_open bytes surroundings state after world left e = ap (λ o. step_from bytes surroundings o state world) e

pub alone_it_is_the_written : AloneItIsTheWritten
alone_it_is_the_written bytes state after world left e = elim (open_step_is bytes no_surroundings state world after left e) [
  | inl written ↦ written.steps
  | inr answered ↦ absurd (none answered.replied)
]
  where
    none : {w : World} {values : RegisterFile} {reservation : Option Reserved} → Stops ≡ Answers w values reservation → ⊥
    none e = cc
