-- What an outline and its functions say of order, and a graph.
use Rattle.std.proofs.Common.{ℕ, ◌+◌, List, arith}
use Rattle.std.specs.List.{All, Contains}
use Rattle.std.proofs.lemmas.List.Elements.{Contains-get_or}
use Rattle.cfg_model.specs.declared.graph.Block.{Block}
use Rattle.cfg_model.specs.declared.graph.Edge.{Edge}
use Rattle.cfg_model.specs.declared.graph.Function.{Function}
use Rattle.cfg_model.specs.declared.graph.Graph.{Graph}
use Rattle.cfg_model.specs.Program.Instructions.{InstructionMap}
use Rattle.cfg_model.specs.Graph.Function.{IsFunction}
use Rattle.cfg_model.specs.Graph.Graph.{IsGraph, IsOutline}
use Rattle.live_regs.specs.Noted.{AreInOrder}
use Rattle.live_regs.proofs.Edges.{rises_by_from}
use Rattle.live_crew.specs.Inner.{HasRisingBody}

module _ (map : InstructionMap) (seeds : List ℕ) where
  pub order_of_outline : (blocks : List Block) (edges : List Edge) → IsOutline map seeds blocks edges → AreInOrder blocks edges
  order_of_outline blocks edges outline = record { by_start = outline.all_blocks.in_order; by_from = rises_by_from edges outline.all_edges.in_order }

  body_rises : (f : Function) → IsFunction map seeds f → HasRisingBody f
  body_rises f is = λ k lt. is.body.in_order k (k + 1) 0 (omega arith) lt

  pub bodies_rise : (functions : List Function) → ((f : Function) → Contains functions f → IsFunction map seeds f) → All HasRisingBody functions
  bodies_rise functions each = λ k d lt. body_rises _ (each _ (Contains-get_or functions k d lt))

  module _ (entry : ℕ) (graph : Graph) (is : IsGraph map seeds entry graph) where
    pub order_of_graph : AreInOrder graph.blocks graph.edges
    order_of_graph = record { by_start = is.blocks.in_order; by_from = rises_by_from graph.edges is.edges.in_order }

    pub bodies_of_graph_rise : All HasRisingBody graph.functions
    bodies_of_graph_rise = bodies_rise graph.functions is.functions.sound
