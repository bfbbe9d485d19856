use Rattle.crew.proofs.desk.Desk.new.Goals as goal

pub invariant_of-result : goal.invariant_of-result
invariant_of-result g c = (
  c.requires.board,
  c.requires.seat,
  record {
    started = λ a at. absurd (c.new.ensures.starts a at);
    entered = λ a at. absurd (c.new.ensures.terminators a at);
    returned = λ a at. absurd (c.new.ensures.returned a at);
    waits = λ k w at. absurd (c.new.ensures.waiting k w at);
  },
)
