-- Numbers and kinds of report as they are written on the command line.
use Rattle.std.specs.Prelude.{ℕ, nat_le, Bool, ◌&&◌, List, length, Option, Some, None, codes}
use Rattle.std.specs.Prelude.{if◌then◌else◌}
use Rattle.std.specs.List.{list_all}
use Rattle.std.specs.Option.{option_and_then}
use Rattle.std.specs.Char.{is_ascii_digit}
use Rattle.std.specs.Str.{bytes_eq}
use Rattle.std.specs.Str.Parse.{digits_value}
use Rattle.graph_report.specs.declared.kind.ReportKind.{ReportKind}
use Rattle.graph_report.specs.declared.kind.ReportKind.TheVariants as reports

-- One to nine decimal digits; zeros may lead.
abbrev pub is_number : List ℕ → Bool
is_number text = nat_le 1 (length text) && (nat_le (length text) 9 && list_all is_ascii_digit text)

-- The number that a text writes.
abbrev pub number_of : List ℕ → Option ℕ
number_of text = if is_number text then Some (digits_value 10 text) else None

-- A number, if it lies between two bounds, both of them included.
abbrev pub kept_within : ℕ → ℕ → ℕ → Option ℕ
kept_within least most n = if nat_le least n && nat_le n most then Some n else None

-- The number that a text writes, if it lies between two bounds.
abbrev pub number_within : ℕ → ℕ → List ℕ → Option ℕ
number_within least most text = option_and_then (kept_within least most) (number_of text)

-- How many workers are asked for: 1 to 64, and one if the option is not given.
abbrev pub workers_of : Option (List ℕ) → Option ℕ
workers_of None = Some 1
workers_of (Some text) = number_within 1 64 text

-- The kind of report with a name.
abbrev pub kind_named : List ℕ → Option ReportKind
kind_named word =
    if bytes_eq word (codes "graph") then Some reports.Graph
    else (if bytes_eq word (codes "functions") then Some reports.Functions
    else (if bytes_eq word (codes "blocks") then Some reports.Blocks
    else (if bytes_eq word (codes "edges") then Some reports.Edges
    else (if bytes_eq word (codes "live") then Some reports.Live
    else None))))

-- The kind of report that is asked for: the whole graph if the option is not given.
abbrev pub report_kind_of : Option (List ℕ) → Option ReportKind
report_kind_of None = Some reports.Graph
report_kind_of (Some word) = kind_named word
