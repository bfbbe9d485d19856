-- The whole text of a report.
use Rattle.std.specs.Prelude.{ℕ, Bool, true, false, List, [], ◌++◌, length}
use Rattle.std.specs.List.{flat_map, list_any}
use Rattle.cfg_model.specs.declared.graph.Block.{Block}
use Rattle.cfg_model.specs.declared.graph.Edge.{Edge}
use Rattle.cfg_model.specs.declared.graph.EdgeKind.{EdgeKind}
use Rattle.cfg_model.specs.declared.graph.EdgeKind.TheVariants as kinds
use Rattle.cfg_model.specs.declared.graph.Function.{Function}
use Rattle.cfg_model.specs.declared.graph.Graph.{Graph}
use Rattle.graph_report.specs.declared.kind.ReportKind.{ReportKind}
use Rattle.graph_report.specs.declared.kind.ReportKind.TheVariants as reports
use Rattle.graph_report.specs.Name.{Names}
use Rattle.graph_report.specs.Line.{first_line, entry_line, functions_line, function_line, in_line}
use Rattle.graph_report.specs.Line.{blocks_line, block_line, edges_line, edge_line, end_line}

-- The two lines that every report begins with.
abbrev pub heading : Bool → ℕ → List ℕ
heading lands entry = first_line lands ++ entry_line entry

-- The kind of an edge from a call to its landing pad.
abbrev pub is_landing : EdgeKind → Bool
is_landing kinds.Landing = true
is_landing _ = false

-- Whether a report of this kind has a line of such an edge.
abbrev pub shows_landing : ReportKind → List Edge → Bool
shows_landing reports.Graph edges = list_any (λ edge. is_landing edge.kind) edges
shows_landing reports.Edges edges = list_any (λ edge. is_landing edge.kind) edges
shows_landing _ edges = false

-- A function with the blocks of its body.
abbrev pub function_lines : Names → Function → List ℕ
function_lines names f = function_line names f ++ flat_map in_line f.body

-- The three sections: how many items there are, and the items in their order.
abbrev pub functions_section : Names → List Function → List ℕ
functions_section names functions =
    functions_line (length functions) ++ flat_map (function_lines names) functions

abbrev pub blocks_section : List Block → List ℕ
blocks_section blocks = blocks_line (length blocks) ++ flat_map block_line blocks

abbrev pub edges_section : List Edge → List ℕ
edges_section edges = edges_line (length edges) ++ flat_map edge_line edges

-- The sections that a report of each kind has: all of them, or the one of its name. A report of live
-- registers shows no part of the graph: its text is live_text.
abbrev pub sections : ReportKind → Names → Graph → List ℕ
sections reports.Graph names graph =
    functions_section names graph.functions
    ++ blocks_section graph.blocks
    ++ edges_section graph.edges
sections reports.Functions names graph = functions_section names graph.functions
sections reports.Blocks names graph = blocks_section graph.blocks
sections reports.Edges names graph = edges_section graph.edges
sections reports.Live names graph = []

-- The report of a graph: the heading, the sections of its kind, and the last line.
abbrev pub report_text : ReportKind → Names → Graph → List ℕ
report_text kind names graph =
    heading (shows_landing kind graph.edges) graph.entry ++ sections kind names graph ++ end_line
