use Rattle.cfg_model.proofs.Program.ChainPlaces.{ends_at}
use Rattle.cfg_model.proofs.chain.towards.Goals as goal

pub returns-in-None-clause-above : goal.returns-in-None-clause-above
returns-in-None-clause-above g c = absurd (c.requires.apart (ends_at (g.C.Chains.map c.args.code.now) c.args.a c.args.k c.in-None.ensures.ends c.requires.leads))
