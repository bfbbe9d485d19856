-- What the words of a command line ask for.
use Rattle.std.specs.Prelude.{ℕ, List, Option, Some, None, codes, string_bytes, if◌then◌else◌}
use Rattle.graph_report.specs.declared.kind.ReportKind.{ReportKind}
use Rattle.cfg_words.specs.declared.asked.Request.{Request}
use Rattle.cfg_words.specs.declared.asked.Request.TheVariants as requests
use Rattle.cfg_words.specs.Command.{is_taken, text_of}
use Rattle.cfg_words.specs.Value.{number_within, workers_of, report_kind_of}

-- A request: the report of a kind of the file with a path, or the summary of a made program of a
-- size; and how many workers build the graph.
pub data Asked : Type 0 where
  of_file : List ℕ → ℕ → ReportKind → Asked
  of_made : ℕ → ℕ → Asked

-- What a value of the program's own type asks for.
abbrev pub asked : Request → Asked
asked (requests.File path workers kind) = of_file (string_bytes path) workers kind
asked (requests.Make n workers) = of_made n workers

-- A file's report, if there are a number of workers and a kind.
abbrev pub file_request : List ℕ → Option ℕ → Option ReportKind → Option Asked
file_request path (Some workers) (Some kind) = Some (of_file path workers kind)
file_request path (Some workers) None = None
file_request path None kind = None

-- A made program's summary, if there are a size and a number of workers.
abbrev pub make_request : Option ℕ → Option ℕ → Option Asked
make_request (Some n) (Some workers) = Some (of_made n workers)
make_request (Some n) None = None
make_request None workers = None

-- The request of the texts of `--workers`, `--report`, `--make` and FILE: exactly one of FILE and
-- `--make` is there, and no `--report` beside `--make`. A size is 4 to 100,000.
abbrev pub request_with : Option (List ℕ) → Option (List ℕ) → Option (List ℕ) → Option (List ℕ)
    → Option Asked
request_with workers report None (Some path) = file_request path (workers_of workers)
    (report_kind_of report)
request_with workers None (Some n) None = make_request (number_within 4 100000 n)
    (workers_of workers)
request_with workers report None None = None
request_with workers (Some word) (Some n) None = None
request_with workers report (Some n) (Some path) = None

-- The request of the words; the first of them is the program's name. None if clap finds a fault in
-- them, and else that of the texts which it finds.
abbrev pub request_of : List (List ℕ) → Option Asked
request_of words =
    if is_taken words
    then request_with (text_of words (codes "workers")) (text_of words (codes "report"))
    (text_of words (codes "make")) (text_of words (codes "file"))
    else None
