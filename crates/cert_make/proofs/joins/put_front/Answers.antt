use Rattle.cert_make.proofs.Falling.{put_merged}
use Rattle.cert_make.proofs.joins.put_front.Goals as goal

pub returns-clause-merged : goal.returns-clause-merged
returns-clause-merged c =
    put_merged c.args.fronts.now.items c.take_front-there.new.fronts.items c.args.i c.take_front-there.result c.in_ok-both.both c.args.front.items c.requires
    c.take_front-there.ensures.as_many c.take_front-there.ensures.taken c.in_ok-both.ensures
