use Rattle.reached_graph.proofs.leaders.leaders_of.Goals as goal

pub returns-clause-rising : goal.returns-clause-rising
returns-clause-rising g c = (c.in_ok-of.ensures c.requires.0 c.requires.1).rise

pub returns-clause-exact : goal.returns-clause-exact
returns-clause-exact g c = λ seeds are a. (c.in_ok-of.ensures seeds are).listed a
