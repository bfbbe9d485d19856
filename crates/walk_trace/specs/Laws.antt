-- Where the trace of a program's graph says `at`: a walk enters a block first, and each edge leads to
-- one. So it leaves the graph after an `out` alone.
use Rattle.std.specs.Prelude.{◌≡◌, ℕ, List, Contains}
use Rattle.cfg_model.specs.declared.graph.EdgeKind.{EdgeKind}
use Rattle.cfg_model.specs.declared.graph.Graph.{Graph}
use Rattle.cfg_model.specs.Program.Instructions.{InstructionMap, IsLawful}
use Rattle.cfg_model.specs.Program.Reach.{AreSeeds}
use Rattle.cfg_model.specs.Graph.Graph.{IsGraph}
use Rattle.rv_machine.specs.State.{start}
use Rattle.rv_machine.specs.Memory.{Bytes}
use Rattle.edge_cover.specs.declared.moves.Move.TheVariants.{Along}
use Rattle.edge_cover.specs.Move.{move_in}
use Rattle.walk_trace.specs.Lines.{at_line}
use Rattle.walk_trace.specs.Trace.{Walk, entered, moved, stack}

-- At the entry of a program, which is one of its seeds, a walk enters a block.
abbrev pub EntryIsEntered : Type 0
EntryIsEntered =
    (map : InstructionMap) (seeds : List ℕ) (entry : ℕ) (graph : Graph) → IsLawful map
    → AreSeeds map seeds → Contains seeds entry → IsGraph map seeds entry graph → (memory : Bytes)
    → (entered graph.blocks (start entry stack) memory).text ≡ at_line entry

-- So it does after each step along an edge, and nothing else is printed.
abbrev pub EdgesAreEntered : Type 0
EdgesAreEntered =
    (map : InstructionMap) (seeds : List ℕ) (entry : ℕ) (graph : Graph) → IsLawful map
    → IsGraph map seeds entry graph → (walk : Walk) (next : ℕ) (kind : EdgeKind)
    → move_in walk.block graph.edges next walk.state.pc ≡ Along kind
    → (moved graph.blocks (Along kind) walk).text ≡ at_line walk.state.pc
