-- Moves that the graph of a program accounts for.
use Rattle.cfg_model.specs.declared.graph.EndKind.{EndKind}
use Rattle.cfg_model.specs.declared.graph.EndKind.TheVariants.{IndirectCall, Return, BranchOut}
use Rattle.cfg_model.specs.declared.graph.EndKind.TheVariants.{Unknown, Stop, TableCut, TableOpen}
use Rattle.edge_cover.specs.declared.moves.Move.{Move}
use Rattle.edge_cover.specs.declared.moves.Move.TheVariants.{Inside, Along, Out}

-- The kinds of blocks that say themselves that control may leave them where no edge leads.
abbrev pub MayBeLeft : EndKind → Type 0
MayBeLeft Return = Unit {0}
MayBeLeft Unknown = Unit {0}
MayBeLeft IndirectCall = Unit {0}
MayBeLeft BranchOut = Unit {0}
MayBeLeft Stop = Unit {0}
MayBeLeft TableCut = Unit {0}
MayBeLeft TableOpen = Unit {0}
MayBeLeft _ = ⊥

-- A move within a block, along an edge, or out of a block of such a kind.
abbrev pub IsCovered : Move → Type 0
IsCovered Inside = Unit {0}
IsCovered (Along kind) = Unit {0}
IsCovered (Out kind) = MayBeLeft kind
