use Rattle.cfg_model.proofs.Graphs.Gaining.{Each}
use Rattle.std.proofs.lemmas.List.Elements.{Contains-get_or}
use Rattle.outline_funcs.specs.Inner.Exits.{LeadsOn, LeadsWithin}
use Rattle.outline_funcs.proofs.Extending.{extends_start, extends_more, extends_at_end, extends_same}
use Rattle.outline_funcs.proofs.Following.{edge_joined}
use Rattle.outline_funcs.proofs.bodies.add_targets.Goals as goal

pub loop-edge-init : goal.loop-edge-init
loop-edge-init c = record { stamped = c.requires.stamped; adds = extends_start (LeadsWithin c.args.exits.now c.args.entry) _; as_many = c.requires.as_many }

pub add_target-requires-clause-joins : goal.add_target-requires-clause-joins
add_target-requires-clause-joins c =
    let edges = c.from_block-edge-items.result.now in
    let here = Contains-get_or edges c.loop-edge.edge-index _ c.loop-edge-test.true in
    edge_joined c.args.exits.now c.requires.exits _ ((c.from_block-edge-items.ensures _).0 here).0

pub loop-edge-preserved : goal.loop-edge-preserved
loop-edge-preserved c = record {
  stamped = c.in_ok-add_target.ensures.stamped;
  adds = extends_more c.from_block-edge-items.result.now c.loop-edge.edge-index _ (LeadsWithin c.args.exits.now c.args.entry) _ _ _
      c.loop-edge-test.true c.loop-edge.invariant.adds c.in_ok-add_target.ensures.adds;
  as_many = c.add_target.ensures.as_many;
}

pub returns-clause-adds : goal.returns-clause-adds
returns-clause-adds c =
    let exits = c.args.exits.now in
    let entry = c.args.entry in
    let edges = c.from_block-edge-items.result.now in
    let side = c.from_block-edge-items.ensures in
    extends_same _ _ (Each edges (LeadsWithin exits entry)) (LeadsOn exits entry c.args.from)
    (λ b e. let at = (side e.0).0 e.1 in record { edge = e.0; listed = at.0; leaves = at.1; leads = e.2 })
    (λ b on. (on.edge, (side on.edge).1 (on.listed, on.leaves), on.leads))
    (extends_at_end edges c.loop-edge.edge-index (LeadsWithin exits entry) _ _ c.loop-edge-test.false c.loop-edge.invariant.adds)
