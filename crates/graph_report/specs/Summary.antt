-- The whole text of the summary of a made program.
use Rattle.std.specs.Prelude.{ℕ, not, List, ◌++◌, length, count_by}
use Rattle.cfg_model.specs.declared.graph.Function.{Function}
use Rattle.cfg_model.specs.declared.graph.Graph.{Graph}
use Rattle.graph_report.specs.Line.{made_line, functions_line, blocks_line}
use Rattle.graph_report.specs.Line.{edges_line, may_return_line, no_return_line}

-- How many functions may return, and how many may not.
abbrev pub may_return_count : List Function → ℕ
may_return_count functions = count_by (λ f. f.returns) functions

abbrev pub no_return_count : List Function → ℕ
no_return_count functions = count_by (λ f. not f.returns) functions

-- The summary of the graph of the program that is made from a number: six lines of counts.
abbrev pub summary_text : ℕ → Graph → List ℕ
summary_text n graph =
    made_line n
    ++ functions_line (length graph.functions)
    ++ blocks_line (length graph.blocks)
    ++ edges_line (length graph.edges)
    ++ may_return_line (may_return_count graph.functions)
    ++ no_return_line (no_return_count graph.functions)
