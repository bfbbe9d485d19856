use Rattle.reached_graph.proofs.outline.add_block.Goals as goal

pub returns : goal.returns
returns g c = record {
  block = c.block_to.result;
  pushed = c.in_ok-push.ensures.items;
  is = c.block_to.ensures;
  gained = c.in_ok-add_ways.ensures;
}
