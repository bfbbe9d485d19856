use Rattle.std.proofs.Common.{Option, ◌<◌, sym, subst}
use Rattle.std.specs.Prelude.{IfSome}
use Rattle.cert_make.specs.declared.firsts.Offer.{Offer}
use Rattle.cert_make.proofs.LeadSettling.{chosen_join, chosen_way, no_joins, none_chosen, matched, unmatched}
use Rattle.cert_make.proofs.leads.by_reason.Goals as goal

pub returns-in-Some-join : goal.returns-in-Some-join
returns-in-Some-join c = λ code seeds lines no near join.
    c.by_first.ensures code seeds lines no (matched c.args.nearest _ _ c.in-Some.way c.in-Some.is near) (matched c.args.join _ _ c.in-Some-join.join c.in-Some-join.is join)

pub returns-in-None-join-2 : goal.returns-in-None-join-2
returns-in-None-join-2 c = λ code seeds lines no near join.
    none_chosen code seeds lines c.args.a no (unmatched c.args.nearest _ _ c.in-None.is near) (unmatched c.args.join _ _ c.in-None-join-2.is join)

pub returns-in-None-join : goal.returns-in-None-join
returns-in-None-join c = λ code seeds lines no near join.
    chosen_way code seeds lines c.args.a c.in-Some.way c.by_way.result no (matched c.args.nearest _ _ c.in-Some.way c.in-Some.is near)
    (no_joins code lines c.args.a c.in-Some.way.rank (unmatched c.args.join _ _ c.in-None-join.is join)) c.by_way.ensures

pub returns-in-Some-join-2 : goal.returns-in-Some-join-2
returns-in-Some-join-2 c = λ code seeds lines no near join.
    let m = c.in-Some-join-2.join in
    chosen_join code seeds lines c.args.a m.rank m.first m.second c.args.nearest c.by_join.result no near (matched c.args.join _ _ m c.in-Some-join-2.is join)
    (subst (λ (o : Option Offer). IfSome o (λ w. m.rank < w.rank)) (sym c.in-None.is) tt) c.by_join.ensures
