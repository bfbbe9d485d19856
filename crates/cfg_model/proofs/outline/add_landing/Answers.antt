use Rattle.std.proofs.lemmas.Result.{on_ok_weaker}
use Rattle.cfg_model.specs.Program.Instructions.{targets_at}
use Rattle.cfg_model.proofs.Graphs.WaysOn.{gains_landing}
use Rattle.cfg_model.proofs.outline.add_landing.Goals as goal

pub returns : goal.returns
returns g c =
    on_ok_weaker c.add_some.result
    (λ gains. gains_landing c.args.from c.landing.result (targets_at (g.C.Chains.map c.args.code.now) c.args.k) c.args.edges.now.items c.add_some.new.edges.items c.landing.ensures.landing gains)
    c.add_some.ensures
