-- The text of an answer, as contracts see it.
use Rattle.std.specs.Prelude.{◌≡◌, ℕ, List}
use Rattle.cfg_model.specs.declared.graph.Graph.{Graph}
use Rattle.file_program.specs.FileGraph.{IsGraphOf}
use Rattle.cert_text.specs.declared.certificate.Certificate.{Certificate}
use Rattle.cert_text.specs.Text.{certificate_text}
use Rattle.certify.specs.FileCanonical.{IsCanonicalOf}
use Rattle.check_run.specs.declared.text.Text.{Text}
use Rattle.check_run.specs.declared.text.Text.TheVariants as texts
use Rattle.check_run.specs.Answer.{report_of}

-- The bytes of a text.
abbrev pub bytes_of : Text → List ℕ
bytes_of (texts.Certificate bytes) = bytes.items
bytes_of (texts.Report report) = report

-- The text is that of the canonical certificate of the file with these bytes.
pub record IsCanonicalText (bytes text : List ℕ) : Type 0 where
  pub certificate : Certificate
  pub is_canonical : IsCanonicalOf bytes certificate
  pub is_text : text ≡ certificate_text certificate

-- The text is the report of the graph of the file with these bytes.
pub record IsReportOf (bytes text : List ℕ) : Type 0 where
  pub graph : Graph
  pub is_graph : IsGraphOf bytes graph
  pub is_report : text ≡ report_of bytes graph
