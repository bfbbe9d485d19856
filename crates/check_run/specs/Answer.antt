-- The answer to a run: what its words, and the bytes of the file and of the certificate that they
-- name, alone decide.
use Rattle.std.specs.Prelude.{◌≡◌, ℕ, List, [], Option, Some, None}
use Rattle.elf_image.specs.declared.fault.Fault.{Fault}
use Rattle.elf_image.specs.Faults.{first_fault}
use Rattle.elf_image.specs.Seeds.{seed_name}
use Rattle.cfg_model.specs.declared.graph.Graph.{Graph}
use Rattle.file_program.specs.FileGraph.{IsGraphOf}
use Rattle.graph_report.specs.declared.kind.ReportKind.TheVariants as reports
use Rattle.graph_report.specs.Report.{report_text}
use Rattle.cert_text.specs.declared.certificate.Certificate.{Certificate}
use Rattle.cert_text.specs.Text.{certificate_text}
use Rattle.certify.specs.FileCanonical.{IsCanonicalOf}
use Rattle.run_ends.specs.Answer.{Answer}
use Rattle.check_run.specs.declared.refusal.Refusal.{Refusal}
use Rattle.check_run.specs.declared.refusal.Refusal.TheVariants as refusals
use Rattle.check_run.specs.declared.status.CheckStatus.{CheckStatus}
use Rattle.check_run.specs.declared.status.CheckStatus.TheVariants as statuses
use Rattle.check_run.specs.Refusal.{status_of}
use Rattle.check_run.specs.Lines.{refusal_line}
use Rattle.check_run.specs.Evidence.{HasNoText, HasFalse, HasValid}
use Rattle.check_run.specs.Words.{Asked, of_make, of_test}

-- Nothing is written but the line that says why.
abbrev pub refused_with : Refusal → Answer CheckStatus
refused_with refusal =
    record { status = status_of refusal; output = []; error = refusal_line refusal }

-- The report of the file's graph.
abbrev pub report_of : List ℕ → Graph → List ℕ
report_of bytes graph = report_text reports.Graph (seed_name bytes) graph

-- This text is written: a certificate or a report.
abbrev pub text_answer : List ℕ → Answer CheckStatus
text_answer text = record { status = statuses.Done; output = text; error = [] }

-- The answer to what is asked for, over a file of these bytes and a certificate of that text. Words
-- that ask for nothing are refused. Of a file with a fault, the first one is named. Of any other,
-- its canonical certificate is made, if that is asked for; the text does not count then. For a
-- test, a text that is none and a certificate that is not valid are refused. A valid one gets the
-- report of the graph of the file.
pub data IsAnswer (bytes text : List ℕ) : Option Asked → Answer CheckStatus → Type 0 where
  usage : IsAnswer bytes text None (refused_with refusals.Usage)
  malformed : {asked : Asked} {fault : Fault} → first_fault bytes ≡ Some fault
      → IsAnswer bytes text (Some asked) (refused_with (refusals.Malformed fault))
  made : {file : List ℕ} {canonical : Certificate} → first_fault bytes ≡ None
      → IsCanonicalOf bytes canonical
      → IsAnswer bytes text (Some (of_make file)) (text_answer (certificate_text canonical))
  no_text : {file certificate : List ℕ} → HasNoText bytes text
      → IsAnswer bytes text (Some (of_test file certificate)) (refused_with refusals.NoText)
  refused : {file certificate : List ℕ} → HasFalse bytes text
      → IsAnswer bytes text (Some (of_test file certificate)) (refused_with refusals.Refused)
  done : {file certificate : List ℕ} {graph : Graph} → HasValid bytes text → IsGraphOf bytes graph
      → IsAnswer bytes text (Some (of_test file certificate)) (text_answer (report_of bytes graph))
