use Rattle.reached_terms.proofs.Sending.{note-reach}
use Rattle.reached_terms.proofs.marks.Marks.arrive.Goals as goal

pub returns-clause-step : goal.returns-clause-step
returns-clause-step g c =
    note-reach (g.C.Chains.map c.args.code.now) (g.C.Numbered.number c.args.code.now) c.args.a c.args.self.now c.note.new.self c.reach.new.self c.note.ensures.step c.in_ok-reach.ensures.step
