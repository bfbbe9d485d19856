use Rattle.std.proofs.Common.{ℕ, rules}
use Rattle.cert_make.proofs.Sources.{join_found, no_short, no_long}
use Rattle.cert_make.proofs.joins.first_join.Goals as goal

pub returns-in-Some-least_rank : goal.returns-in-Some-least_rank
returns-in-Some-least_rank c = λ code lines a is also.
    join_found code lines a c.in-Some.one c.in-Some-least_rank.other c.max.result c.args.short.now c.args.long.now c.join_up_to.result is also c.in-Some.ensures c.in-Some-least_rank.ensures
    (search rules) (search rules) (λ (more : ℕ) one other. search rules) c.join_up_to.ensures

pub returns-in-None-least_rank : goal.returns-in-None-least_rank
returns-in-None-least_rank c = λ code lines a is also. no_long code lines a c.args.long.now also c.in-None-least_rank.ensures

pub returns-in-None : goal.returns-in-None
returns-in-None c = λ code lines a is also. no_short code lines a c.args.short.now is c.in-None.ensures
