use Rattle.std.proofs.Common.{Some}
use Rattle.cert_make.proofs.LeadSettling.{chosen_join, chosen_way, joins_later}
use Rattle.cert_make.proofs.leads.by_first.Goals as goal

pub returns-then-join-way : goal.returns-then-join-way
returns-then-join-way c = λ code seeds lines no near join.
    chosen_join code seeds lines c.args.a c.args.join.rank c.args.join.first c.args.join.second (Some c.args.way) c.by_join.result no near join c.if-join-way.true c.by_join.ensures

pub returns-else-join-way : goal.returns-else-join-way
returns-else-join-way c = λ code seeds lines no near join.
    chosen_way code seeds lines c.args.a c.args.way c.by_way.result no near
    (joins_later code lines c.args.a c.args.join.rank c.args.join.first c.args.join.second c.args.way.rank join c.if-join-way.false) c.by_way.ensures
