use Rattle.std.proofs.Common.{◌∙◌, ap}
use Rattle.std.specs.FinMap as map
use Rattle.code_view.proofs.Counts.{put-lookup}
use Rattle.code_view.proofs.cuts.Cuts.put.Goals as goal

pub returns-clause-put : goal.returns-clause-put
returns-clause-put c =
    put-lookup c.self.inside.counts.entries c.insert.new.self.entries c.args.j c.args.count c.in_ok-insert.ensures.updates.0
    ∙ ap (λ m. map.insert m c.args.j c.args.count) c.self.view_is
