use Rattle.cert_laws.proofs.ShowsGraph.{valid_shows_graph}
use Rattle.cert_laws.proofs.laws.a_valid_part_shows_the_graph.Goals as goal

pub returns : goal.returns
returns c = valid_shows_graph
