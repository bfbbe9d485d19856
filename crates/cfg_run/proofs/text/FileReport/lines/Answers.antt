use Rattle.std.proofs.Common.{◌∙◌, ap, List, ℕ}
use Rattle.elf_image.specs.Seeds.{seed_name}
use Rattle.cfg_model.specs.declared.graph.Graph.{Graph}
use Rattle.graph_report.specs.Report.{report_text}
use Rattle.cfg_run.proofs.text.FileReport.lines.Goals as goal

-- The text of the lines is what the report is seen as.
pub returns : goal.returns
returns c =
    let kind = c.self.inside.kind in
    let file = c.self.inside.file in
    c.new.ensures.text ∙ ap (λ (b : List ℕ). report_text kind (seed_name b) c.graph.result.now) (c.new-names.ensures ∙ c.image.ensures)
    ∙ ap (λ (graph : Graph). report_text kind (seed_name file.bytes) graph) c.graph.ensures.graph ∙ c.self.view_is
