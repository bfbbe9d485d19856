-- The text of the live registers of a graph.
use Rattle.std.specs.Prelude.{◌≡◌, ℕ, false, List, ◌++◌, length, map, zip}
use Rattle.std.specs.List.{flat_map, AllZip}
use Rattle.cfg_model.specs.declared.graph.Function.{Function}
use Rattle.cfg_model.specs.declared.graph.Graph.{Graph}
use Rattle.cfg_model.specs.declared.live.Live.{Live}
use Rattle.graph_report.specs.Name.{Names}
use Rattle.graph_report.specs.Line.{function_line, lives_line, live_line, end_line}
use Rattle.graph_report.specs.Report.{heading}

-- The live registers of one function: those of each block of its body, in the order of the body.
abbrev pub HasBlocksOf : Function → List Live → Type 0
HasBlocksOf f lives = map (λ l. l.block) lives ≡ f.body

-- The live registers of all functions, one list for each, in order.
abbrev pub AreForAll : List Function → List (List Live) → Type 0
AreForAll functions lives = AllZip HasBlocksOf functions lives

-- A function with the live registers of the blocks of its body.
abbrev pub function_live_lines : Names → Function × List Live → List ℕ
function_live_lines names (f, lives) = function_line names f ++ flat_map live_line lives

-- The section: how many functions there are, and the functions in their order.
abbrev pub lives_section : Names → List Function → List (List Live) → List ℕ
lives_section names functions lives =
    lives_line (length functions) ++ flat_map (function_live_lines names) (zip functions lives)

-- The report of the live registers of a graph: the heading, the section, and the last line.
abbrev pub live_text : Names → Graph → List (List Live) → List ℕ
live_text names graph lives =
    heading false graph.entry ++ lives_section names graph.functions lives ++ end_line
