use Rattle.outline_funcs.proofs.Sides.{side, side_begins}
use Rattle.outline_funcs.proofs.exits.Exits.from_block.Goals as goal

pub slice_bounds-result-count : goal.slice_bounds-result-count
slice_bounds-result-count c =
    side_begins c.args.self.now c.requires.exits c.args.i c.index.result.now c.index-2.result.now c.requires.within c.index.ensures c.index-2.ensures

pub slice_bounds-result-start : goal.slice_bounds-result-start
slice_bounds-result-start c =
    side_begins c.args.self.now c.requires.exits c.args.i c.index.result.now c.index-2.result.now c.requires.within c.index.ensures c.index-2.ensures

pub returns : goal.returns
returns c =
    side c.args.self.now c.requires.exits c.args.i c.index.result.now c.index-2.result.now c.requires.within c.index.ensures c.index-2.ensures
