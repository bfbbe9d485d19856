use Rattle.std.proofs.Common.{◌∷◌, [], Some, sym, ap, ◌∙◌}
use Rattle.atomic_table.specs.Table.{rest}
use Rattle.board.proofs.Turns.{slot_out, found_is}
use Rattle.board.proofs.change.apply.Goals as goal

pub slot_mut-requires : goal.slot_mut-requires
slot_mut-requires g c = (
  c.requires.own ∙ sym c.board.view_is,
  slot_out c.args.slot (Some c.requires.ready.out.piece) c.args.seat.now.me.1 c.requires.ready.out.out.here,
)

pub returns-clause-goes : goal.returns-clause-goes
returns-clause-goes g c =
    let here = c.requires.ready.out.out.here in record {
      before = c.in-Some.piece;
      after = c.make.new.piece;
      was = here ∙ ap (λ o. (c.args.slot, o) ∷ []) (sym (found_is c.args.slot (Some c.requires.ready.out.piece) c.slot_mut.result.now c.args.seat.now.me here c.slot_mut.ensures.value) ∙ c.in-Some.is);
      is = ap (λ l. (c.args.slot, Some c.make.new.piece) ∷ rest l) here;
      like = c.make.ensures.like;
      step = c.make.ensures.step;
      answer = c.make.ensures.answer;
      same = c.make.ensures.unchanged;
    }
