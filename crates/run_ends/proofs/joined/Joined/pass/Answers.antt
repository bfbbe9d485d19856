use Rattle.std.proofs.Common.{◌∙◌, List, ℕ, subst}
use Rattle.std.specs.List.{flat_map}
use Rattle.cfg_io.specs.Told.{Appends}
use Rattle.run_ends.proofs.Pieces.{on_err_map, prefix_behind}
use Rattle.run_ends.proofs.joined.Joined.pass.Goals as goal

pub returns-clause-prefix : goal.returns-clause-prefix
returns-clause-prefix g c =
    let old = g.O.Sink.written c.args.out.now in
    let mid = g.O.Sink.written c.write_whole.new.sink in
    let joined : Appends old c.args.self.now mid =
    subst (λ (xs : List ℕ). Appends old xs mid) (c.deref.ensures.value ∙ c.self.view_is) c.in_ok-write_whole.ensures.whole in
    on_err_map c.write_texts.result
    (prefix_behind old mid (g.O.Sink.written c.write_texts.new.out) c.args.self.now (flat_map (λ text. text.items) c.args.texts.now) joined)
    c.write_texts.ensures.prefix
