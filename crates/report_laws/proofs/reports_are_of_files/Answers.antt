use Rattle.report_laws.proofs.Reported.{of_files, have_outlines, entry_is_seed}
use Rattle.report_laws.proofs.reports_are_of_files.Goals as goal

pub returns : goal.returns
returns c = record { graph = of_files; outline = have_outlines; entry = entry_is_seed }
