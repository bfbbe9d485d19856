use Rattle.std.proofs.Common.{◌≡◌, ◌∙◌, ap, List, ℕ}
use Rattle.check_run.specs.Answer.{report_of}
use Rattle.check_run.proofs.report.GraphReport.write.Goals as goal

-- The text of the pieces is what the report is seen as.
pub returns-clause-whole : goal.returns-clause-whole
returns-clause-whole g c =
    let same : c.in_ok-pieces.pieces ≡ c.args.self.now = c.in_ok-pieces.ensures.text ∙ ap (λ (b : List ℕ). report_of b c.self.inside.graph) c.new-names.ensures ∙ c.self.view_is in
    rw same at c.write_pieces.ensures.whole
