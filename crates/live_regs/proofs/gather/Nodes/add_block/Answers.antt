use Rattle.std.proofs.Common.{◌==◌, ◌&&◌, ◌||◌, not, refl, ap, subst, ◌∙◌}
use Rattle.mask_flow.specs.Reaches.{has_bit}
use Rattle.cfg_model.specs.declared.graph.Block.{Block}
use Rattle.cfg_model.specs.declared.graph.EndKind.TheVariants as ends
use Rattle.live_regs.specs.Inner.{AddsWays}
use Rattle.live_regs.proofs.Gathered.{block_added}
use Rattle.live_regs.proofs.gather.Nodes.add_block.Goals as goal

abbrev no_block : Block
no_block = record { start = 0; end = 0; kind = ends.Fall }

pub between-edges-requires : goal.between-edges-requires
between-edges-requires c = let span = c.end_from-end.ensures in record { ordered = span.ordered; within = span.within }

pub returns : goal.returns
returns c =
    let effects = c.effects-effects.result in
    let ways = subst (λ es. AddsWays es c.args.body.now c.args.place c.args.self.now.ways.items c.add_ways.new.ways.items c.in_ok-by_edge.by_edge) c.between-edges.ensures c.in_ok-by_edge.ensures in
    block_added c.args.program.now.image.now _ c.args.program.now.edges.now c.args.body.now c.args.place c.requires.noted.order.by_start c.args.number no_block c.requires.number effects (c.effects-effects.ensures no_block)
    _ _ c.end_from-end.ensures c.args.self.now.ways.items c.add_ways.new.ways.items c.in_ok-by_edge.by_edge ways c.mask_of.result
    (λ r low. c.mask_of.ensures r low ∙ ap (λ b. has_bit effects.reads r || (b && not (r == 0) && not (has_bit effects.writes r))) c.leaves_by-leaves.ensures)
    _ _ refl refl c.in_ok-push.ensures.items c.in_ok-push-2.ensures.items
