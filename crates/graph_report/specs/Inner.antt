-- Words of private functions, which no public contract cites: what is left of a report.
use Rattle.std.specs.Prelude.{◌≡◌, ℕ, ◌+◌, ◌<◌, ◌≤◌, Bool, true, false, if◌then◌else◌}
use Rattle.std.specs.Prelude.{List, [], ◌++◌, length, zip, Option, Some, None, codes}
use Rattle.std.specs.List.{flat_map}
use Rattle.std.specs.Option.{option_map}
use Rattle.cfg_model.specs.declared.graph.Block.{Block}
use Rattle.cfg_model.specs.declared.graph.Edge.{Edge}
use Rattle.graph_report.specs.declared.page.TheConstants.{LINE_ROOM, PAGE_ROOM, PIECE}
use Rattle.graph_report.specs.declared.heading.Heading.{Heading}
use Rattle.graph_report.specs.declared.kind.ReportKind.{ReportKind}
use Rattle.graph_report.specs.declared.kind.ReportKind.TheVariants as reports
use Rattle.graph_report.specs.declared.left.FunctionsLeft.{FunctionsLeft}
use Rattle.graph_report.specs.declared.list_left.ListLeft.{ListLeft}
use Rattle.graph_report.specs.declared.left.ReportLeft.{ReportLeft}
use Rattle.graph_report.specs.declared.live_left.LivesLeft.{LivesLeft}
use Rattle.graph_report.specs.declared.live_left.LiveLeft.{LiveLeft}
use Rattle.graph_report.specs.declared.live_left.TextLeft.{TextLeft}
use Rattle.graph_report.specs.declared.live_left.TextLeft.TheVariants as texts
use Rattle.graph_report.specs.Name.{Names, name_byte}
use Rattle.graph_report.specs.Line.{functions_line, in_line, blocks_line}
use Rattle.graph_report.specs.Line.{block_line, edges_line, edge_line, end_line}
use Rattle.graph_report.specs.Line.{lives_line, live_line}
use Rattle.graph_report.specs.Live.{function_live_lines}
use Rattle.graph_report.specs.Report.{heading, function_lines}

-- The text grew, by a line at most.
abbrev pub IsLine : List ℕ → List ℕ → Type 0
IsLine old new = (length old < length new) × (length new ≤ length old + LINE_ROOM)

-- Text moved from the front of what is left to the end of a page, until a piece stood there or
-- nothing was left.
pub record Fills (page left new_page new_left : List ℕ) : Type 0 where
  pub moves : new_page ++ new_left ≡ page ++ left
  pub room : length new_page ≤ PAGE_ROOM
  pub filled : length new_page < PIECE → new_left ≡ []
  pub stays : PIECE ≤ length page → (new_page ≡ page) × (new_left ≡ left)

-- Which sections a kind of report has.
abbrev pub has_functions : ReportKind → Bool
has_functions reports.Graph = true
has_functions reports.Functions = true
has_functions reports.Blocks = false
has_functions reports.Edges = false
has_functions reports.Live = false

abbrev pub has_blocks : ReportKind → Bool
has_blocks reports.Graph = true
has_blocks reports.Functions = false
has_blocks reports.Blocks = true
has_blocks reports.Edges = false
has_blocks reports.Live = false

abbrev pub has_edges : ReportKind → Bool
has_edges reports.Graph = true
has_edges reports.Functions = false
has_edges reports.Blocks = false
has_edges reports.Edges = true
has_edges reports.Live = false

-- The rest of a function's line, from within its name; nothing if the line is whole.
abbrev pub name_left : Option (List ℕ) → List ℕ
name_left None = []
name_left (Some name) = flat_map name_byte name ++ codes "\n"

-- The first line of a section, with the number that it tells, unless it was given.
abbrev pub count_left : Option ℕ → (ℕ → List ℕ) → List ℕ
count_left None line = []
count_left (Some count) line = line count

-- The sections, from where they stand.
abbrev pub functions_left : Names → FunctionsLeft → List ℕ
functions_left names left =
    count_left left.count functions_line
    ++ (name_left (option_map (λ s. s.now) left.name)
    ++ (flat_map in_line left.body.now
    ++ flat_map (function_lines names) left.functions.now))

abbrev pub list_left : {T : Type 0} → (ℕ → List ℕ) → (T → List ℕ) → ListLeft T → List ℕ
list_left first line left = count_left left.count first ++ flat_map line left.items.now

abbrev pub blocks_left : ListLeft Block → List ℕ
blocks_left left = list_left blocks_line block_line left

abbrev pub edges_left : ListLeft Edge → List ℕ
edges_left left = list_left edges_line edge_line left

-- The last line, unless it was given.
abbrev pub end_left : Bool → List ℕ
end_left ended = if ended then [] else end_line

-- The report after its heading.
abbrev pub report_left : Names → ReportLeft → List ℕ
report_left names left =
    functions_left names left.functions
    ++ (blocks_left left.blocks ++ (edges_left left.edges ++ end_left left.ended))

-- The same of a report of live registers.
abbrev pub lives_left : Names → LivesLeft → List ℕ
lives_left names left =
    count_left left.count lives_line
    ++ (name_left (option_map (λ s. s.now) left.name)
    ++ (flat_map live_line left.body.now
    ++ flat_map (function_live_lines names) (zip left.functions.now left.lives.now)))

abbrev pub live_left : Names → LiveLeft → List ℕ
live_left names left = lives_left names left.lives ++ end_left left.ended

-- A report of either form after its heading.
abbrev pub text_left : Names → TextLeft → List ℕ
text_left names (texts.Graph left) = report_left names left
text_left names (texts.Live left) = live_left names left

-- The heading, unless it was given.
abbrev pub heading_left : Option Heading → List ℕ
heading_left None = []
heading_left (Some first) = heading first.lands first.entry
