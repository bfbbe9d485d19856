use Rattle.std.proofs.Common.{ap, ◌∙◌}
use Rattle.board.proofs.Making.{made, unchanged, noted}
use Rattle.board.proofs.change.make_out.Goals as goal

pub note-requires-clause-made : goal.note-requires-clause-made
note-requires-clause-made g c =
    let goes = c.in_ok-made.ensures.goes in
    made g.J.Job.map g.J.Job.seeds (g.C.Change.event c.args.change.now) c.args.slot c.args.seat.now.me c.apply.new.seat.me c.requires.ready goes.before goes.after goes.was goes.is c.apply.ensures.view goes.step

pub returns-clause-goes : goal.returns-clause-goes
returns-clause-goes g c =
    let goes = c.in_ok-made.ensures.goes in record {
      before = goes.before;
      after = goes.after;
      was = goes.was;
      is = ap (λ m. m.1) (c.note.ensures.made goes.after goes.is) ∙ goes.is;
      like = goes.like;
      step = goes.step;
      answer = goes.answer;
      same = tt;
    }

pub returns-clause-noted : goal.returns-clause-noted
returns-clause-noted g c =
    let goes = c.in_ok-made.ensures.goes in
    noted g.J.Job.map g.J.Job.seeds (g.C.Change.event c.args.change.now) c.args.slot c.args.seat.now.me c.apply.new.seat.me c.requires.ready goes.before goes.after goes.was goes.is c.apply.ensures.view
    c.note.new.seat.me (c.note.ensures.made goes.after goes.is)

pub returns-in_err-made-clause-noted : goal.returns-in_err-made-clause-noted
returns-in_err-made-clause-noted g c =
    let goes = c.in_err-made.ensures.goes in
    unchanged g.J.Job.map g.J.Job.seeds (g.C.Change.event c.args.change.now) c.args.slot c.args.seat.now.me c.apply.new.seat.me c.requires.ready goes.before goes.after goes.was goes.is c.apply.ensures.view goes.same
