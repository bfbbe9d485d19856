-- The text of an answer, as contracts see it.
use Rattle.std.specs.Prelude.{ℕ, List}
use Rattle.cfg_run.specs.declared.text.Text.{Text}
use Rattle.cfg_run.specs.declared.text.Text.TheVariants.{Report, Live, Summary}

-- The bytes of a text.
abbrev pub bytes_of : Text → List ℕ
bytes_of (Report report) = report
bytes_of (Live report) = report
bytes_of (Summary bytes) = bytes.items
