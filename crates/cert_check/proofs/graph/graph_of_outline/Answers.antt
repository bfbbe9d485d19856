use Rattle.cert_check.proofs.graph.graph_of_outline.Goals as goal

pub returns : goal.returns
returns g c =
    c.mark_tails.ensures.graph (g.C.Chains.map c.args.code.now) c.args.seeds.now c.args.entry c.args.outline.blocks c.requires.outline c.in_ok-functions.ensures.exact c.in_ok-functions.ensures.complete
