use Rattle.std.proofs.Common.{◌∙◌, ap, List, ℕ}
use Rattle.elf_image.specs.Seeds.{seed_name}
use Rattle.cfg_model.specs.declared.graph.Graph.{Graph}
use Rattle.graph_report.specs.Live.{live_text}
use Rattle.cfg_run.proofs.text.LiveReport.lines.Goals as goal

-- The text of the lines is what the report is seen as.
pub returns : goal.returns
returns c =
    let lives = c.self.inside.lives in
    let file = c.self.inside.file in
    c.of_lives.ensures.text ∙ ap (λ (b : List ℕ). live_text (seed_name b) c.graph.result.now lives) (c.new-names.ensures ∙ c.image.ensures)
    ∙ ap (λ (graph : Graph). live_text (seed_name file.bytes) graph lives) c.graph.ensures.graph ∙ c.self.view_is
