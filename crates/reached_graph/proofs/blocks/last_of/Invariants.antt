use Rattle.std.proofs.Common.{◌-◌, ◌^◌, IsSome}
use Rattle.cfg_model.specs.Graph.Block.{RunsTo}
use Rattle.numbered.specs.Numbering.{IsMarked}
use Rattle.reached_graph.proofs.blocks.last_of.Given as goal

abbrev pub invariant-loop-next : goal.invariant-loop-next
invariant-loop-next g l = record {
  runs : RunsTo (g.C.Chains.map l.code) (IsMarked (g.C.Chains.map l.code) (g.C.Numbered.number l.code) l.marks) l.s l.at;
  stands : IsSome (g.C.Chains.map l.code l.at);
}

abbrev pub decreases-loop-next : goal.decreases-loop-next
decreases-loop-next g l = 2 ^ 64 - l.at
