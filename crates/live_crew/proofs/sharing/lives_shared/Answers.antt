use Rattle.std.proofs.Common.{sym, subst, ◌∙◌}
use Rattle.std.specs.List.{All}
use Rattle.cfg_model.specs.declared.graph.Function.{Function}
use Rattle.live_regs.specs.Masks.{AreLivesOf}
use Rattle.live_crew.specs.Inner.{HasRisingBody}
use Rattle.live_crew.proofs.Piecewise.{answer_of_pieces, each_piece}
use Rattle.live_crew.proofs.sharing.lives_shared.Goals as goal

pub lives_by_piece-requires-clause-bodies : goal.lives_by_piece-requires-clause-bodies
lives_by_piece-requires-clause-bodies g c κs within =
    rw c.deref.ensures.value
    (each_piece HasRisingBody c.in_ok-pieces.pieces.items (subst (All HasRisingBody) (sym c.in_ok-pieces.ensures) c.requires.bodies))

pub returns : goal.returns
returns g c =
    let lists = c.in_ok-lists.lists in
    let program = c.new-program.ensures in
    answer_of_pieces (λ (f : Function). AreLivesOf c.args.image.now c.args.blocks.now c.args.edges.now f.body) c.args.functions.now c.in_ok-pieces.pieces.items lists.items c.joined_if_made.result c.in_ok-pieces.ensures
    (sym lists.ok.0 ∙ (rw c.deref.ensures.value at c.in_ok-lists.ensures.as_many))
    (rw (c.deref.ensures.value, program.image, program.blocks, program.edges) at c.in_ok-lists.ensures.each)
    c.joined_if_made.ensures.made c.joined_if_made.ensures.joined
