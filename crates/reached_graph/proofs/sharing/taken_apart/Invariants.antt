use Rattle.std.proofs.Common.{◌≡◌}
use Rattle.std.specs.List.{All, flat_map}
use Rattle.parallel.specs.Lists.{all_in}
use Rattle.reached_graph.specs.Inner.Parts.{IsMade, blocks_in, edges_in}
use Rattle.reached_graph.proofs.sharing.taken_apart.Given as goal

-- all parts so far were made, and are taken apart
abbrev pub invariant-loop-part : goal.invariant-loop-part
invariant-loop-part l = record {
  made : All IsMade l.yielded;
  blocks : all_in l.blocks.items ≡ flat_map blocks_in l.yielded;
  edges : all_in l.edges.items ≡ flat_map edges_in l.yielded;
}
