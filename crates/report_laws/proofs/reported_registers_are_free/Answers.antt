use Rattle.elf_image.specs.Seeds.{seeds}
use Rattle.free_laws.proofs.Twins.{runs_within_are_alike}
use Rattle.free_laws.proofs.Forever.{free_registers_are_free}
use Rattle.free_laws.proofs.Keeping.{prepared_runs_keep_to_graph}
use Rattle.run_laws.specs.Outline.{outline_of}
use Rattle.report_laws.specs.Reported.{cuts_of}
use Rattle.report_laws.proofs.Reported.{of_files, have_outlines}
use Rattle.report_laws.proofs.reported_registers_are_free.Goals as goal

pub returns : goal.returns
returns c = record {
  within = λ bytes graph is body surroundings first last other steps. runs_within_are_alike bytes (cuts_of is) (seeds bytes) graph body (of_files bytes graph is) surroundings first last other steps;
  always = λ bytes graph is body surroundings first other. free_registers_are_free bytes (cuts_of is) (seeds bytes) graph body (of_files bytes graph is) surroundings first other;
  keeps = λ bytes graph is body surroundings first. prepared_runs_keep_to_graph bytes (cuts_of is) (seeds bytes) (outline_of graph) graph body (have_outlines bytes graph is) (of_files bytes graph is) is.numbers surroundings first;
}
