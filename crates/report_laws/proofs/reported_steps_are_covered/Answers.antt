use Rattle.elf_image.specs.Seeds.{seeds}
use Rattle.edge_cover.proofs.Cover.{steps_are_covered}
use Rattle.edge_cover.proofs.Pairs.{pairs_are_covered}
use Rattle.edge_cover.proofs.Tables.{table_runs_are_covered}
use Rattle.edge_cover.proofs.OpenSteps.{open_steps_are_covered, open_pairs_are_covered, open_table_runs_are_covered}
use Rattle.run_laws.specs.Outline.{outline_of}
use Rattle.report_laws.specs.Reported.{cuts_of}
use Rattle.report_laws.proofs.Reported.{have_outlines}
use Rattle.report_laws.proofs.reported_steps_are_covered.Goals as goal

pub returns : goal.returns
returns c = record {
  steps = λ bytes graph is. steps_are_covered bytes (cuts_of is) (seeds bytes) (outline_of graph) (have_outlines bytes graph is);
  pairs = λ bytes graph is. pairs_are_covered bytes (cuts_of is) (seeds bytes) (outline_of graph) (have_outlines bytes graph is);
  tables = λ bytes graph is. table_runs_are_covered bytes (cuts_of is) (seeds bytes) (outline_of graph) (have_outlines bytes graph is) is.numbers;
  open_steps = λ bytes graph is. open_steps_are_covered bytes (cuts_of is) (seeds bytes) (outline_of graph) (have_outlines bytes graph is);
  open_pairs = λ bytes graph is. open_pairs_are_covered bytes (cuts_of is) (seeds bytes) (outline_of graph) (have_outlines bytes graph is);
  open_tables = λ bytes graph is. open_table_runs_are_covered bytes (cuts_of is) (seeds bytes) (outline_of graph) (have_outlines bytes graph is) is.numbers;
}
