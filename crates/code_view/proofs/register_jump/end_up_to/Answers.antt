use Rattle.code_view.proofs.register_jump.end_up_to.Goals as goal

pub returns-in-Some-clause-exact : goal.returns-in-Some-clause-exact
returns-in-Some-clause-exact c = rw c.in-Some.is c.places_up_to.ensures.exact
