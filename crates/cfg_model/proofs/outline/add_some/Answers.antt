use Rattle.cfg_model.proofs.outline.add_some.Goals as goal

pub returns-in-Some : goal.returns-in-Some
returns-in-Some c = rw c.in-Some.is c.add_edge.ensures
