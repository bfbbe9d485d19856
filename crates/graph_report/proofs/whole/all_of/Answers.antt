use Rattle.std.proofs.Common.{ℕ, List, ◌++◌, ◌∙◌, ap, append_assoc}
use Rattle.graph_report.proofs.Giving.{piece_shortens, piece_and_rest}
use Rattle.graph_report.proofs.whole.all_of.Goals as goal

pub loop-piece-smaller : goal.loop-piece-smaller
loop-piece-smaller c =
    piece_shortens c.loop-piece.pieces c.next_piece.follows.lender-at-none c.in-Some.piece.now (rw c.in-Some.is at c.next_piece.follows.holds-at-none)

pub loop-piece-preserved : goal.loop-piece-preserved
loop-piece-preserved c =
    let left = c.next_piece.follows.lender-at-none in
    let whole = piece_and_rest c.loop-piece.pieces left c.in-Some.piece.now (rw c.in-Some.is at c.next_piece.follows.holds-at-none) in
    ap (λ (xs : List ℕ). xs ++ left) c.in_ok-extend_from_slice.ensures.items
    ∙ append_assoc c.loop-piece.out.items c.in-Some.piece.now left
    ∙ ap (λ (xs : List ℕ). c.loop-piece.out.items ++ xs) whole
    ∙ c.loop-piece.invariant
