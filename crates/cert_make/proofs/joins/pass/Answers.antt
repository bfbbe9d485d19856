use Rattle.cert_ends.proofs.Placed.{no_lead}
use Rattle.cert_make.specs.Reason.{MeetsBy}
use Rattle.cert_make.specs.Inner.Fronts.{IsSource}
use Rattle.cert_make.proofs.Falling.{front_at, front_made, front_meets, front_read, opened}
use Rattle.cert_make.proofs.joins.pass.Goals as goal

pub hand_on-requires-clause-front : goal.hand_on-requires-clause-front
hand_on-requires-clause-front g c κs within =
    let map = g.C.Chains.map c.args.code.now in
    let lines = c.args.lines.now in
    let runs = c.args.runs.now in
    let i = c.args.i in
    let short = front_at map lines c.requires.lawful c.requires.leads runs c.requires.runs 2 i c.args.shorts.now.items c.take_front-short.result c.requires.within c.requires.shorts c.take_front-short.ensures.taken in
    let long = front_at map lines c.requires.lawful c.requires.leads runs c.requires.runs 4 i c.args.longs.now.items c.take_front-long.result c.requires.within c.requires.longs c.take_front-long.ensures.taken in
    front_made map lines c.requires.lawful c.requires.leads runs c.requires.runs i no_lead c.requires.within c.take_front-short.result.items c.take_front-long.result.items c.in_ok-front.front.items c.add.new.front.items
    short long c.in_ok-front.ensures c.in_ok-add.ensures

pub hand_on-requires-clause-shorts : goal.hand_on-requires-clause-shorts
hand_on-requires-clause-shorts g c κs within =
    opened (g.C.Chains.map c.args.code.now) c.args.lines.now c.requires.lawful c.requires.leads c.args.runs.now c.requires.runs 2 c.args.i c.args.shorts.now.items c.take_front-short.new.fronts.items
    c.requires.shorts c.take_front-short.ensures.as_many c.take_front-short.ensures.others

pub hand_on-requires-clause-longs : goal.hand_on-requires-clause-longs
hand_on-requires-clause-longs g c κs within =
    opened (g.C.Chains.map c.args.code.now) c.args.lines.now c.requires.lawful c.requires.leads c.args.runs.now c.requires.runs 4 c.args.i c.args.longs.now.items c.take_front-long.new.fronts.items
    c.requires.longs c.take_front-long.ensures.as_many c.take_front-long.ensures.others

pub returns-clause-join : goal.returns-clause-join
returns-clause-join g c =
    let map = g.C.Chains.map c.args.code.now in
    let lines = c.args.lines.now in
    let runs = c.args.runs.now in
    let i = c.args.i in
    let short = front_at map lines c.requires.lawful c.requires.leads runs c.requires.runs 2 i c.args.shorts.now.items c.take_front-short.result c.requires.within c.requires.shorts c.take_front-short.ensures.taken in
    let long = front_at map lines c.requires.lawful c.requires.leads runs c.requires.runs 4 i c.args.longs.now.items c.take_front-long.result c.requires.within c.requires.longs c.take_front-long.ensures.taken in
    λ a place.
    c.first_join-join.ensures map lines a
    (front_read (IsSource lines (λ p. MeetsBy map 2 p a)) c.take_front-short.result.items c.as_slice.result.now c.as_slice.ensures.value
    (front_meets map lines c.requires.lawful c.requires.leads runs c.requires.runs 2 i a c.take_front-short.result.items place short))
    (front_read (IsSource lines (λ p. MeetsBy map 4 p a)) c.take_front-long.result.items c.as_slice-2.result.now c.as_slice-2.ensures.value
    (front_meets map lines c.requires.lawful c.requires.leads runs c.requires.runs 4 i a c.take_front-long.result.items place long))
