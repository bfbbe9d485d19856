use Rattle.std.proofs.lemmas.Result.{IfOk-weaker}
use Rattle.reached_graph.proofs.Leading.{known_starts}
use Rattle.reached_graph.proofs.sharing.outline_by.Goals as goal

pub returns : goal.returns
returns g c =
    IfOk-weaker c.outline_shared.result _ _
    (λ outline is seeds terms. is seeds terms.known (known_starts (g.C.Chains.map c.args.code.now) (g.C.Numbered.number c.args.code.now) seeds c.args.reached.now terms c.starts.result.now c.starts.ensures))
    c.outline_shared.ensures
