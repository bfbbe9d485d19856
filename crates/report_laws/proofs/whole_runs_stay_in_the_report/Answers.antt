use Rattle.elf_image.specs.Seeds.{seeds}
use Rattle.run_laws.proofs.Whole.{runs_stay, returns_are_said, no_return_is_not_taken, no_return_never_ends, returns_have_edges}
use Rattle.report_laws.specs.Reported.{cuts_of}
use Rattle.report_laws.proofs.Reported.{of_files}
use Rattle.report_laws.proofs.whole_runs_stay_in_the_report.Goals as goal

pub returns : goal.returns
returns c = record {
  stays = λ bytes graph is. runs_stay bytes (cuts_of is) (seeds bytes) graph (of_files bytes graph is) is.numbers;
  returns = λ bytes graph is. returns_are_said bytes (cuts_of is) (seeds bytes) graph (of_files bytes graph is) is.numbers;
  not_taken = λ bytes graph is. no_return_is_not_taken bytes (cuts_of is) (seeds bytes) graph (of_files bytes graph is) is.numbers;
  never_ends = λ bytes graph is. no_return_never_ends bytes (cuts_of is) (seeds bytes) graph (of_files bytes graph is) is.numbers;
  edges = λ bytes graph is. returns_have_edges bytes (cuts_of is) (seeds bytes) graph (of_files bytes graph is) is.numbers;
}
