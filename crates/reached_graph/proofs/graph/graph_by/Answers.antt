use Rattle.reached_graph.proofs.Starting.{entry_reached}
use Rattle.reached_graph.proofs.graph.graph_by.Goals as goal

pub functions_among-requires-clause-returns : goal.functions_among-requires-clause-returns
functions_among-requires-clause-returns g c κs within =
    let map = g.C.Chains.map c.args.code.now in
    let seeds = c.args.seeds.now in
    record {
      asks = λ a entry. c.requires.returns.asks a (entry_reached map seeds a entry);
      tells = λ a answer entry told. c.requires.returns.tells a answer (entry_reached map seeds a entry) told;
    }

pub returns : goal.returns
returns g c =
    c.mark_tails.ensures.graph (g.C.Chains.map c.args.code.now) c.args.seeds.now c.args.entry c.in_ok-outline.outline.blocks
    (c.in_ok-outline.ensures c.args.seeds.now c.requires.leaders) c.in_ok-functions.ensures.exact c.in_ok-functions.ensures.complete
