-- The format on small values, by computation.
use Rattle.std.specs.Prelude.{◌≡◌, ◌==◌, if◌then◌else◌, ℕ, ◌-◌, ◌^◌, refl, true, false, Some, None, List, [], ◌∷◌, length, codes}
use Rattle.std.specs.Fmt.{digits}
use Rattle.cfg_model.specs.declared.graph.Graph.{Graph}
use Rattle.cfg_model.specs.declared.graph.EndKind.TheVariants as ends
use Rattle.cfg_model.specs.declared.graph.EdgeKind.TheVariants as kinds
use Rattle.graph_report.specs.declared.kind.ReportKind.TheVariants as reports
use Rattle.graph_report.specs.Number.{address_digits, hex_digits}
use Rattle.graph_report.specs.Name.{Names, name_field}
use Rattle.graph_report.specs.Line.{functions_line, blocks_line, function_line, edge_line}
use Rattle.graph_report.specs.Report.{report_text}
use Rattle.graph_report.specs.Live.{live_text}
use Rattle.graph_report.specs.Summary.{summary_text}

-- no address has a name
abbrev nameless : Names
nameless a = None

-- a program that is one return: the code 00008067 at 10000
abbrev one_return : Graph
one_return = record {
  entry = 0x10000;
  functions = record { entry = 0x10000; returns = true; body = 0x10000 ∷ [] } ∷ [];
  blocks = record { start = 0x10000; end = 0x10004; kind = ends.Return } ∷ [];
  edges = [];
}

-- its whole report
abbrev one_return_text : List ℕ
one_return_text = codes "cfg-report 2\nentry 0000000000010000\nfunctions 1\nfunction 0000000000010000 may-return 1 -\nin 0000000000010000\nblocks 1\nblock 0000000000010000 0000000000010004 return\nedges 0\nend\n"

one_return_graph : report_text reports.Graph nameless one_return ≡ one_return_text
unfolding hex_digits digits
one_return_graph = refl

one_return_length : length one_return_text ≡ 177
one_return_length = refl

-- the other kinds of report show one section of it
one_return_functions : report_text reports.Functions nameless one_return ≡ codes "cfg-report 2\nentry 0000000000010000\nfunctions 1\nfunction 0000000000010000 may-return 1 -\nin 0000000000010000\nend\n"
unfolding hex_digits digits
one_return_functions = refl

one_return_blocks : report_text reports.Blocks nameless one_return ≡ codes "cfg-report 2\nentry 0000000000010000\nblocks 1\nblock 0000000000010000 0000000000010004 return\nend\n"
unfolding hex_digits digits
one_return_blocks = refl

one_return_edges : report_text reports.Edges nameless one_return ≡ codes "cfg-report 2\nentry 0000000000010000\nedges 0\nend\n"
unfolding hex_digits digits
one_return_edges = refl

-- the live registers of 00000513 00008067 at 10000: all but x10, which the first instruction writes
one_return_live : live_text nameless one_return ((record { block = 0x10000; mask = 0xfffffbfe } ∷ []) ∷ []) ≡ codes "cfg-report 2\nentry 0000000000010000\nlives 1\nfunction 0000000000010000 may-return 1 -\nlive 0000000000010000 fffffbfe\nend\n"
unfolding hex_digits digits
one_return_live = refl

-- two functions with names: a jump to a return, and an instruction that stops
abbrev two_functions : Graph
two_functions = record {
  entry = 0x10000;
  functions = record { entry = 0x10000; returns = true; body = 0x10000 ∷ 0x10004 ∷ [] } ∷ record { entry = 0x10008; returns = false; body = 0x10008 ∷ [] } ∷ [];
  blocks = record { start = 0x10000; end = 0x10004; kind = ends.Jump } ∷ record { start = 0x10004; end = 0x10008; kind = ends.Return } ∷ record { start = 0x10008; end = 0x1000c; kind = ends.Stop } ∷ [];
  edges = record { from = 0x10000; to = 0x10004; kind = kinds.Jump } ∷ [];
}

-- their names
abbrev two_names : Names
two_names a = if a == 0x10008 then Some (codes "-") else Some (codes "_start")

two_functions_graph : report_text reports.Graph two_names two_functions ≡ codes "cfg-report 2\nentry 0000000000010000\nfunctions 2\nfunction 0000000000010000 may-return 2 _start\nin 0000000000010000\nin 0000000000010004\nfunction 0000000000010008 no-return 1 \\x2d\nin 0000000000010008\nblocks 3\nblock 0000000000010000 0000000000010004 jump\nblock 0000000000010004 0000000000010008 return\nblock 0000000000010008 000000000001000c stop\nedges 1\nedge 0000000000010000 0000000000010004 jump\nend\n"
unfolding hex_digits digits
two_functions_graph = refl

-- a function that does not return, with a name and eleven blocks
eleven_blocks : function_line (λ a. Some (codes "_start")) (record { entry = 0xfedcba9876543210; returns = false; body = 1 ∷ 2 ∷ 3 ∷ 4 ∷ 5 ∷ 6 ∷ 7 ∷ 8 ∷ 9 ∷ 10 ∷ 11 ∷ [] }) ≡ codes "function fedcba9876543210 no-return 11 _start\n"
unfolding hex_digits digits
eleven_blocks = refl

tail_call : edge_line (record { from = 0x1000c; to = 0x10000; kind = kinds.Tail }) ≡ codes "edge 000000000001000c 0000000000010000 tail\n"
unfolding hex_digits
tail_call = refl

-- their live registers, of which the last block needs none
two_functions_live : live_text two_names two_functions ((record { block = 0x10000; mask = 0xfffffffe } ∷ record { block = 0x10004; mask = 2 } ∷ []) ∷ (record { block = 0x10008; mask = 0 } ∷ []) ∷ []) ≡ codes "cfg-report 2\nentry 0000000000010000\nlives 2\nfunction 0000000000010000 may-return 2 _start\nlive 0000000000010000 fffffffe\nlive 0000000000010004 00000002\nfunction 0000000000010008 no-return 1 \\x2d\nlive 0000000000010008 00000000\nend\n"
unfolding hex_digits digits
two_functions_live = refl

-- their summary, as if they had been made from the number 5000
two_functions_summary : summary_text 5000 two_functions ≡ codes "cfg-made 5000\nfunctions 2\nblocks 3\nedges 1\nmay-return 1\nno-return 1\n"
unfolding digits
two_functions_summary = refl

-- counts and addresses
no_functions : functions_line 0 ≡ codes "functions 0\n"
unfolding digits
no_functions = refl

many_blocks : blocks_line 27502 ≡ codes "blocks 27502\n"
unfolding digits
many_blocks = refl

last_address : address_digits (2 ^ 64 - 2) ≡ codes "fffffffffffffffe"
unfolding hex_digits
last_address = refl

-- names
no_name : name_field None ≡ codes "-"
no_name = refl

dash : name_field (Some (codes "-")) ≡ codes "\\x2d"
dash = refl

two_dashes : name_field (Some (codes "--")) ≡ codes "--"
two_dashes = refl

space : name_field (Some (codes "a b")) ≡ codes "a\\x20b"
space = refl

backslash : name_field (Some (codes "a\\b")) ≡ codes "a\\\\b"
backslash = refl

first_and_last_visible : name_field (Some (0x20 ∷ 0x21 ∷ 0x7e ∷ 0x7f ∷ 0xff ∷ [])) ≡ codes "\\x20!~\\x7f\\xff"
first_and_last_visible = refl

-- a call that does not come back, and that lands at 10004 if the callee throws
abbrev one_landing : Graph
one_landing = record {
  entry = 0x10000;
  functions = record { entry = 0x10000; returns = true; body = 0x10000 ∷ 0x10004 ∷ [] } ∷ record { entry = 0x10008; returns = false; body = 0x10008 ∷ [] } ∷ [];
  blocks = record { start = 0x10000; end = 0x10004; kind = ends.Call } ∷ record { start = 0x10004; end = 0x10008; kind = ends.Return } ∷ record { start = 0x10008; end = 0x1000c; kind = ends.Stop } ∷ [];
  edges = record { from = 0x10000; to = 0x10004; kind = kinds.Landing } ∷ record { from = 0x10000; to = 0x10008; kind = kinds.Call } ∷ [];
}

-- a text with the edge to the pad has version 3, and one without it has version 2
one_landing_edges : report_text reports.Edges nameless one_landing ≡ codes "cfg-report 3\nentry 0000000000010000\nedges 2\nedge 0000000000010000 0000000000010004 landing\nedge 0000000000010000 0000000000010008 call\nend\n"
unfolding hex_digits digits
one_landing_edges = refl

one_landing_blocks : report_text reports.Blocks nameless one_landing ≡ codes "cfg-report 2\nentry 0000000000010000\nblocks 3\nblock 0000000000010000 0000000000010004 call\nblock 0000000000010004 0000000000010008 return\nblock 0000000000010008 000000000001000c stop\nend\n"
unfolding hex_digits digits
one_landing_blocks = refl
