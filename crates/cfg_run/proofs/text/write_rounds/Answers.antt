-- What the full rounds left, the last round takes, and what that left is written in the end.
use Rattle.std.proofs.Common.{◌++◌, List, ℕ, ap, subst}
use Rattle.run_ends.specs.Told.{Moves}
use Rattle.run_ends.proofs.Pieces.{on_err, on_err_map, moves_on, moves_part}
use Rattle.cfg_run.proofs.text.write_rounds.Goals as goal

pub returns-in_err-put_round-clause-prefix : goal.returns-in_err-put_round-clause-prefix
returns-in_err-put_round-clause-prefix g c =
    let old = g.O.Sink.written c.args.out.now in
    let mid = g.O.Sink.written c.put_full_rounds.new.out in
    let left = c.put_full_rounds.new.joined ++ c.put_full_rounds.new.lines in
    let moved : Moves old mid c.args.lines left =
    subst (λ (xs : List ℕ). Moves old mid xs left) (ap (λ (xs : List ℕ). xs ++ c.args.lines) c.requires.empty) c.in_ok-put_full_rounds.ensures.moved in
    on_err c.from_residual-in_err-put_round.result
    (moves_part old mid (g.O.Sink.written c.put_round.new.out) c.args.lines left moved c.in_err-put_round.ensures.prefix)

pub returns-clause-prefix : goal.returns-clause-prefix
returns-clause-prefix g c =
    let old = g.O.Sink.written c.args.out.now in
    let mid = g.O.Sink.written c.put_full_rounds.new.out in
    let last = g.O.Sink.written c.put_round.new.out in
    let left = c.put_full_rounds.new.joined ++ c.put_full_rounds.new.lines in
    let joined = c.put_round.new.joined in
    let moved : Moves old mid c.args.lines left =
    subst (λ (xs : List ℕ). Moves old mid xs left) (ap (λ (xs : List ℕ). xs ++ c.args.lines) c.requires.empty) c.in_ok-put_full_rounds.ensures.moved in
    on_err_map c.end.result
    (moves_part old last (g.O.Sink.written c.end.new.out) c.args.lines joined (moves_on old mid last c.args.lines left joined moved c.in_ok-put_round.ensures.moved))
    c.end.ensures.prefix
