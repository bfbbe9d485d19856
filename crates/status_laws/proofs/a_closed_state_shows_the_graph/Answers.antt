use Rattle.status_laws.proofs.ClosedLaws.{closed_shows_graph}
use Rattle.status_laws.proofs.a_closed_state_shows_the_graph.Goals as goal

pub returns : goal.returns
returns c = closed_shows_graph
