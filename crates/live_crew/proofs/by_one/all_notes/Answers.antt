use Rattle.live_crew.proofs.Notes.{notes_more, one_longer}
use Rattle.live_crew.proofs.by_one.all_notes.Goals as goal

pub loop-piece-preserved : goal.loop-piece-preserved
loop-piece-preserved c =
    let long = c.loop-piece.invariant.long in
    let pushed = c.in_ok-push.ensures.items in
    record {
      long = one_longer c.args.image.now c.args.blocks.now _ _ _ _ long pushed;
      are = notes_more c.args.image.now c.args.blocks.now _ _ _ _ long pushed c.loop-piece.invariant.are c.effects_of_piece.ensures;
    }
