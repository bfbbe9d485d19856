use Rattle.std.proofs.Common.{ap, ◌∙◌, arith}
use Rattle.board.specs.declared.piece.Piece.TheVariants.{Starts, Ends, Terms}
use Rattle.board.proofs.Ends.{starts_in, ends_in, terms_in}
use Rattle.board.proofs.table.empty_piece.Goals as goal

pub returns-then-slot-lt-SHARDS : goal.returns-then-slot-lt-SHARDS
returns-then-slot-lt-SHARDS c = ap Starts c.empty.ensures ∙ starts_in c.args.slot (omega (arith, c.if-slot-lt-SHARDS.true))

pub returns-then-slot : goal.returns-then-slot
returns-then-slot c = ap Ends c.empty-then-slot.ensures ∙ ends_in c.args.slot (omega (arith, c.if-slot-lt-SHARDS.false)) (omega (arith, c.if-slot.true))

pub returns-else-slot : goal.returns-else-slot
returns-else-slot c = ap Terms c.empty-else-slot.ensures ∙ terms_in c.args.slot (omega (arith, c.if-slot.false)) c.requires
