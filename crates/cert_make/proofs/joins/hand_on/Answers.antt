use Rattle.std.proofs.Common.{ℕ, ◌<◌, refl, sym, subst}
use Rattle.cert_make.proofs.Along.{false_true}
use Rattle.cert_make.proofs.Falling.{closed, goes_nowhere, handed, into_known, into_within, long_after, not_both}
use Rattle.cert_make.proofs.joins.hand_on.Goals as goal

pub is_short-requires-clause-stands : goal.is_short-requires-clause-stands
is_short-requires-clause-stands g c κs within = into_known (g.C.Chains.map c.args.code.now) c.args.lines.now c.requires.lawful c.requires.leads c.args.runs.now c.requires.runs c.args.i c.in-Some.into c.in-Some.is

pub put_front-requires : goal.put_front-requires
put_front-requires g c =
    subst (λ (n : ℕ). c.in-Some.into < n) (sym c.requires.shorts.as_many)
    (into_within (g.C.Chains.map c.args.code.now) c.args.lines.now c.requires.lawful c.requires.leads c.args.runs.now c.requires.runs c.args.i c.in-Some.into c.in-Some.is)

pub put_front-requires-2 : goal.put_front-requires-2
put_front-requires-2 g c =
    subst (λ (n : ℕ). c.in-Some.into < n) (sym c.requires.longs.as_many)
    (into_within (g.C.Chains.map c.args.code.now) c.args.lines.now c.requires.lawful c.requires.leads c.args.runs.now c.requires.runs c.args.i c.in-Some.into c.in-Some.is)

pub returns-in-None-clause-shorts : goal.returns-in-None-clause-shorts
returns-in-None-clause-shorts g c =
    closed (g.C.Chains.map c.args.code.now) c.args.lines.now c.requires.lawful c.requires.leads c.args.runs.now c.requires.runs 2 c.args.i c.args.shorts.now.items
    (λ j into size. goes_nowhere _ j c.in-None.is into) c.requires.shorts

pub returns-in-None-clause-longs : goal.returns-in-None-clause-longs
returns-in-None-clause-longs g c =
    closed (g.C.Chains.map c.args.code.now) c.args.lines.now c.requires.lawful c.requires.leads c.args.runs.now c.requires.runs 4 c.args.i c.args.longs.now.items
    (λ j into size. goes_nowhere _ j c.in-None.is into) c.requires.longs

pub returns-then-is_short-clause-shorts : goal.returns-then-is_short-clause-shorts
returns-then-is_short-clause-shorts g c =
    let put = c.in_ok-put_front.ensures in
    handed (g.C.Chains.map c.args.code.now) c.args.lines.now c.requires.lawful c.requires.leads c.args.runs.now c.requires.runs 2 c.args.i c.in-Some.into c.args.front.items c.args.shorts.now.items c.put_front.new.fronts.items
    c.in-Some.is (c.if-is_short.ensures.0 refl) c.requires.front c.requires.shorts put.as_many put.others put.merged

pub returns-then-is_short-clause-longs : goal.returns-then-is_short-clause-longs
returns-then-is_short-clause-longs g c =
    closed (g.C.Chains.map c.args.code.now) c.args.lines.now c.requires.lawful c.requires.leads c.args.runs.now c.requires.runs 4 c.args.i c.args.longs.now.items
    (λ j into size. not_both _ (c.if-is_short.ensures.0 refl) size) c.requires.longs

pub returns-clause-shorts : goal.returns-clause-shorts
returns-clause-shorts g c =
    closed (g.C.Chains.map c.args.code.now) c.args.lines.now c.requires.lawful c.requires.leads c.args.runs.now c.requires.runs 2 c.args.i c.args.shorts.now.items
    (λ j into size. false_true (c.if-is_short.ensures.1 size)) c.requires.shorts

pub returns-clause-longs : goal.returns-clause-longs
returns-clause-longs g c =
    let put = c.in_ok-put_front-2.ensures in
    handed (g.C.Chains.map c.args.code.now) c.args.lines.now c.requires.lawful c.requires.leads c.args.runs.now c.requires.runs 4 c.args.i c.in-Some.into c.args.front.items c.args.longs.now.items c.put_front-2.new.fronts.items
    c.in-Some.is (long_after (g.C.Chains.map c.args.code.now) c.args.lines.now c.requires.lawful c.requires.leads c.args.runs.now c.requires.runs c.args.i c.in-Some.into c.in-Some.is (λ two. false_true (c.if-is_short.ensures.1 two))) c.requires.front c.requires.longs put.as_many put.others put.merged
