use Rattle.cfg_model.proofs.Program.ChainPlaces.{ends_at}
use Rattle.core_state.proofs.along.towards.Goals as goal

pub returns-in-None-clause-above : goal.returns-in-None-clause-above
returns-in-None-clause-above g c = absurd (c.requires.apart (ends_at (g.W.Walk.map c.args.walk.now) c.args.a c.args.k c.in-None.ensures.ends c.requires.leads))
