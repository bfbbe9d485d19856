use Rattle.std.proofs.Common.{◌≡◌, Err, true, false}
use Rattle.cfg_model.proofs.Graphs.Lists.{found_iff}
use Rattle.live_regs.proofs.search.place_near.Goals as goal

pub returns-in-Err-clause-none : goal.returns-in-Err-clause-none
returns-in-Err-clause-none c = λ has.
    let found : false ≡ true = (found_iff c.args.addresses.now c.args.a (Err c.in-Err.field-0) c.requires c.in-Err.ensures.position).1 has in cc
