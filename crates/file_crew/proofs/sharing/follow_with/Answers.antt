use Rattle.std.proofs.lemmas.Result.{IfOk-weaker}
use Rattle.file_graph.specs.Reach.{IsReachOf}
use Rattle.file_crew.proofs.sharing.follow_with.Goals as goal

pub returns : goal.returns
returns g c =
    let seeds = c.args.seeds.now in
    IfOk-weaker c.marks_from_by.result _ (IsReachOf c.args.code.now seeds) (λ reached are. are seeds c.in_ok-state.ensures.closed) c.marks_from_by.ensures
