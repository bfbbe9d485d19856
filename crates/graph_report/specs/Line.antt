-- The lines of a report, one definition a form.
use Rattle.std.specs.Prelude.{ℕ, Bool, true, false, List, [], ◌∷◌, ◌++◌, length, codes, decimal}
use Rattle.std.specs.List.{join_with_byte}
use Rattle.cfg_model.specs.declared.graph.Block.{Block}
use Rattle.cfg_model.specs.declared.graph.Edge.{Edge}
use Rattle.cfg_model.specs.declared.graph.Function.{Function}
use Rattle.cfg_model.specs.declared.live.Live.{Live}
use Rattle.graph_report.specs.Number.{address_digits, mask_digits}
use Rattle.graph_report.specs.Name.{Names, name_field}
use Rattle.graph_report.specs.Words.{status_word, end_word, edge_word}

-- A line: its fields with one space between each two, and a newline.
abbrev pub line : List (List ℕ) → List ℕ
line fields = join_with_byte 32 fields ++ codes "\n"

-- The version of the format, whose words a reader must know: 3 of a text that has an edge to a
-- landing pad, and 2 of every other.
abbrev pub version : Bool → List ℕ
version true = codes "3"
version false = codes "2"

-- The first line: what this text is, and in which version of the format.
abbrev pub first_line : Bool → List ℕ
first_line lands = line (codes "cfg-report" ∷ version lands ∷ [])

-- Where the program starts.
abbrev pub entry_line : ℕ → List ℕ
entry_line a = line (codes "entry" ∷ address_digits a ∷ [])

-- How many functions, blocks or edges follow.
abbrev pub functions_line : ℕ → List ℕ
functions_line count = line (codes "functions" ∷ decimal count ∷ [])

abbrev pub blocks_line : ℕ → List ℕ
blocks_line count = line (codes "blocks" ∷ decimal count ∷ [])

abbrev pub edges_line : ℕ → List ℕ
edges_line count = line (codes "edges" ∷ decimal count ∷ [])

-- A function: its entry, whether it may return, how many blocks its body has, and its name.
abbrev pub function_line : Names → Function → List ℕ
function_line names f =
    line (codes "function" ∷ address_digits f.entry ∷ status_word f.returns ∷ decimal
    (length f.body) ∷ name_field (names f.entry) ∷ [])

-- A block of the function above, by where it starts.
abbrev pub in_line : ℕ → List ℕ
in_line block = line (codes "in" ∷ address_digits block ∷ [])

-- A block: where it starts, the address after it, and what it ends with.
abbrev pub block_line : Block → List ℕ
block_line b =
    line (codes "block" ∷ address_digits b.start ∷ address_digits b.end ∷ end_word b.kind ∷ [])

-- An edge: the starts of its two blocks, and its kind.
abbrev pub edge_line : Edge → List ℕ
edge_line e =
    line (codes "edge" ∷ address_digits e.from ∷ address_digits e.to ∷ edge_word e.kind ∷ [])

-- How many functions follow, each with the live registers of its blocks.
abbrev pub lives_line : ℕ → List ℕ
lives_line count = line (codes "lives" ∷ decimal count ∷ [])

-- A block of the function above, by where it starts, and the registers that are live there.
abbrev pub live_line : Live → List ℕ
live_line l = line (codes "live" ∷ address_digits l.block ∷ mask_digits l.mask ∷ [])

-- The first line of the summary of a made program: how many functions were asked for.
abbrev pub made_line : ℕ → List ℕ
made_line n = line (codes "cfg-made" ∷ decimal n ∷ [])

-- How many functions may return, and how many may not.
abbrev pub may_return_line : ℕ → List ℕ
may_return_line count = line (codes "may-return" ∷ decimal count ∷ [])

abbrev pub no_return_line : ℕ → List ℕ
no_return_line count = line (codes "no-return" ∷ decimal count ∷ [])

-- The last line.
abbrev pub end_line : List ℕ
end_line = line (codes "end" ∷ [])
