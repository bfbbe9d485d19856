-- What the registers hold that are not live at a block does not matter to the machine.
use Rattle.std.specs.Prelude.{◌≡◌, ℕ, zero, suc, IsTrue, List, Option}
use Rattle.elf_image.specs.Architecture.{extensions_of}
use Rattle.elf_image.specs.Faults.{IsImage}
use Rattle.rv_decode.specs.declared.instructions.Insn.{Insn}
use Rattle.rv_flow.specs.Placed.{placed_at}
use Rattle.cfg_model.specs.declared.graph.Graph.{Graph}
use Rattle.cfg_model.specs.Program.Reach.{AreSeeds}
use Rattle.cfg_model.specs.Graph.Graph.{IsGraph}
use Rattle.code_view.specs.Cuts.{CutsFit}
use Rattle.code_view.specs.Program.{program_under}
use Rattle.rv_machine.specs.State.{State}
use Rattle.open_machine.specs.World.{World}
use Rattle.open_machine.specs.Asked.{Surroundings}
use Rattle.open_machine.specs.Step.{Outcome, Ends, Goes, open_step}
use Rattle.open_machine.specs.Runs.{OpenStepsTo}
use Rattle.edge_cover.specs.Covered.{IsCovered}
use Rattle.live_regs.specs.Effects.{as_read, reads}
use Rattle.live_regs.specs.Leaves.{Leaves}
use Rattle.live_regs.specs.Live.{IsBlockIn, IsLive}
use Rattle.live_regs.specs.Masks.{has_bit, IsMaskOf}
use Rattle.free_laws.specs.Agree.{Agree, OpenEndAlike}
use Rattle.free_laws.specs.Within.{Place, with_state, next_of, move_from, RunsWithin}

-- The graph of the program of an accepted file, under table cuts that fit and from these seeds.
pub record IsGraphOfFile (bytes : List ℕ) (cuts : ℕ → Option ℕ) (seeds : List ℕ)
    (graph : Graph) : Type 0 where
  pub accepted : IsImage bytes
  pub fit : CutsFit bytes cuts
  pub start : AreSeeds (program_under bytes cuts) seeds
  pub entry : ℕ
  pub is : IsGraph (program_under bytes cuts) seeds entry graph

-- Two runs begin at a block of this body and in one world, one of them at this place and the other in
-- another state. The states agree in the registers that are live at the block.
pub record BeginAlike (bytes : List ℕ) (graph : Graph) (body : List ℕ) (first : Place)
    (other : State) : Type 0 where
  pub begins : IsBlockIn graph.blocks body first.state.pc first.block
  pub agree : Agree (λ r. IsLive bytes graph.blocks graph.edges body r first.state.pc) first.state
      other

-- The instruction at the program counter, as its reads are counted: LPAD reads x7.
abbrev pub insn_as_read : List ℕ → State → Option Insn
insn_as_read bytes state = as_read (extensions_of bytes) (placed_at bytes state.pc)

-- Two states at one place, in one world. They agree in the registers that the instruction there is
-- said to read, and at the start of a block in those that are live there. They make the same step.
-- After the last instruction of a block that leaves the function they agree in all registers.
pub record AgreeAt (bytes : List ℕ) (surroundings : Surroundings) (graph : Graph)
    (body : List ℕ) (place : Place) (other : State) : Type 0 where
  pub read : Agree (λ r. IsTrue (reads (insn_as_read bytes place.state) r)) place.state other
  pub agree : Agree (λ r. (place.state.pc ≡ place.block.start)
      × IsLive bytes graph.blocks graph.edges body r place.block.start) place.state other
  pub step : OpenEndAlike (λ r. (next_of bytes place.state ≡ place.block.end)
      × Leaves graph.edges body place.block)
      (open_step bytes surroundings place.state place.world)
      (open_step bytes surroundings other place.world)

-- When one of two runs that begin alike has come to a place within the body, so has the other by as
-- many steps and in the same world, and their states agree there. So the surroundings are asked the
-- same at each step.
abbrev pub RunsWithinAreAlike : Type 0
RunsWithinAreAlike =
    (bytes : List ℕ) (cuts : ℕ → Option ℕ) (seeds : List ℕ) (graph : Graph) (body : List ℕ)
    → IsGraphOfFile bytes cuts seeds graph
    → (surroundings : Surroundings) (first last : Place) (other : State) (steps : ℕ)
    → BeginAlike bytes graph body first other
    → RunsWithin bytes surroundings graph body steps first last
    → (reached : State) × AgreeAt bytes surroundings graph body last reached
    × RunsWithin bytes surroundings graph body steps (with_state first other)
    (with_state last reached)

-- A run from a place keeps to the graph: each step that it makes within the body is a move that the
-- graph accounts for.
abbrev pub KeepsToGraph : List ℕ → Surroundings → Graph → List ℕ → Place → Type 0
KeepsToGraph bytes surroundings graph body first =
    (last : Place) (after : State) (left : World) (steps : ℕ)
    → RunsWithin bytes surroundings graph body steps first last
    → OpenStepsTo bytes surroundings last.state last.world after left
    → IsCovered (move_from bytes graph last after.pc)

-- A step, and what comes after it unless the run ends.
abbrev pub and_then : Outcome → (State → World → Outcome) → Outcome
and_then (Ends trap) next = Ends trap
and_then (Goes after left) next = next after left

-- So many steps of the open machine, one after another, or the trap that ends them.
unfoldable pub after_steps : List ℕ → Surroundings → ℕ → State → World → Outcome
after_steps bytes surroundings zero state world = Goes state world
after_steps bytes surroundings (suc n) state world =
    and_then (open_step bytes surroundings state world) (after_steps bytes surroundings n)

-- Two runs that begin alike go alike for ever, also after they have left the function, if one of
-- them keeps to the graph within the body: after any number of steps they have the same program
-- counter, reservation, memory and hidden state, or were ended by the same trap.
abbrev pub FreeRegistersAreFree : Type 0
FreeRegistersAreFree =
    (bytes : List ℕ) (cuts : ℕ → Option ℕ) (seeds : List ℕ) (graph : Graph) (body : List ℕ)
    → IsGraphOfFile bytes cuts seeds graph
    → (surroundings : Surroundings) (first : Place) (other : State)
    → BeginAlike bytes graph body first other
    → KeepsToGraph bytes surroundings graph body first
    → (steps : ℕ)
    → OpenEndAlike (λ r. ⊥) (after_steps bytes surroundings steps first.state first.world)
    (after_steps bytes surroundings steps other first.world)

-- States agree in what is live at a block of a body if they agree in the registers whose bits are set
-- in its mask.
abbrev pub MasksSayWhatIsLive : Type 0
MasksSayWhatIsLive =
    (bytes : List ℕ) (graph : Graph) (body : List ℕ) (s mask : ℕ) (one other : State)
    → IsMaskOf (λ r. IsLive bytes graph.blocks graph.edges body r s) mask
    → Agree (λ r. IsTrue (has_bit mask r)) one other
    → Agree (λ r. IsLive bytes graph.blocks graph.edges body r s) one other
