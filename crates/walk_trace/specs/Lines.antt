-- The lines of a trace (this project's profile): its fields are those of a report.
use Rattle.std.specs.Prelude.{ℕ, List, [], ◌∷◌, codes}
use Rattle.cfg_model.specs.declared.graph.EndKind.{EndKind}
use Rattle.rv_machine.specs.declared.trap.Trap.{Trap}
use Rattle.rv_machine.specs.declared.trap.Trap.TheVariants as traps
use Rattle.graph_report.specs.Number.{address_digits}
use Rattle.graph_report.specs.Words.{end_word}
use Rattle.graph_report.specs.Line.{line}

-- The machine enters the block at an address.
abbrev pub at_line : ℕ → List ℕ
at_line a = line (codes "at" ∷ address_digits a ∷ [])

-- It leaves a block that ends so, and not along an edge.
abbrev pub out_line : EndKind → List ℕ
out_line kind = line (codes "out" ∷ end_word kind ∷ [])

-- The walk ends, since no block starts where the machine goes.
abbrev pub left_line : List ℕ
left_line = line (codes "end" ∷ codes "left" ∷ [])

-- It ends with a trap of this name.
abbrev pub trap_word : Trap → List ℕ
trap_word traps.Fetch = codes "Fetch"
trap_word traps.Illegal = codes "Illegal"
trap_word traps.Breakpoint = codes "Breakpoint"
trap_word traps.Ecall = codes "Ecall"
trap_word traps.Csr = codes "Csr"
trap_word traps.Float = codes "Float"
trap_word traps.Unsupported = codes "Unsupported"
trap_word traps.LoadFault = codes "LoadFault"
trap_word traps.StoreFault = codes "StoreFault"
trap_word traps.Misaligned = codes "Misaligned"

abbrev pub trap_line : Trap → List ℕ
trap_line trap = line (codes "end" ∷ codes "trap" ∷ trap_word trap ∷ [])

-- It ends after as many steps as were asked for.
abbrev pub steps_line : List ℕ
steps_line = line (codes "end" ∷ codes "steps" ∷ [])
