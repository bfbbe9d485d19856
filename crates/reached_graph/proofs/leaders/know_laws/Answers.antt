use Rattle.reached_graph.proofs.leaders.know_laws.Goals as goal

pub returns-clause-apart : goal.returns-clause-apart
returns-clause-apart g c = λ count below. record { below = below; apart = c.numbers.ensures.numbers.apart }
