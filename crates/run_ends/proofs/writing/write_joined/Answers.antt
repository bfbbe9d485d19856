use Rattle.std.proofs.Common.{◌++◌, List, ℕ, ap, subst}
use Rattle.run_ends.specs.Told.{Moves}
use Rattle.run_ends.proofs.Pieces.{on_err_map, moves_part}
use Rattle.run_ends.proofs.writing.write_joined.Goals as goal

pub returns-clause-prefix : goal.returns-clause-prefix
returns-clause-prefix g c =
    let old = g.O.Sink.written c.args.out.now in
    let mid = g.O.Sink.written c.put_all.new.out in
    let joined = c.put_all.new.self in
    let moved : Moves old mid c.args.pieces joined =
    subst (λ (xs : List ℕ). Moves old mid xs joined) (ap (λ (xs : List ℕ). xs ++ c.args.pieces) c.requires) c.in_ok-put_all.ensures.moved in
    on_err_map c.end.result (moves_part old mid (g.O.Sink.written c.end.new.out) c.args.pieces joined moved) c.end.ensures.prefix
