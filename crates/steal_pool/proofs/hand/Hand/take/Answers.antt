use Rattle.std.proofs.Common.{◌≡◌, ◌<◌, ◌∙◌, List, length, ap, refl, sym, arith}
use Rattle.std.proofs.lemmas.List.{length-map}
use Rattle.steal_pool.specs.Pool.{DequeId, HandValue}
use Rattle.steal_pool.specs.inner.Ends.{deque_of}
use Rattle.steal_pool.proofs.Takings.{took, stood, again}
use Rattle.steal_pool.proofs.hand.Hand.take.Goals as goal

pub returns-in-Got-clause-same : goal.returns-in-Got-clause-same
returns-in-Got-clause-same g c =
    let got = took c.self.inside.number c.workers.result c.args.self.now c.loop.self c.first_of.new.ends c.in-Got.name (ap (λ (v : HandValue). v.number) c.self.view_is)
    (c.workers.ensures ∙ ap (λ (l : List DequeId). length l) (sym c.requires.pool)) c.loop.invariant.0 c.in-Got.ensures.round in
    got.same

pub returns-in-Got-clause-put : goal.returns-in-Got-clause-put
returns-in-Got-clause-put g c =
    let got = took c.self.inside.number c.workers.result c.args.self.now c.loop.self c.first_of.new.ends c.in-Got.name (ap (λ (v : HandValue). v.number) c.self.view_is)
    (c.workers.ensures ∙ ap (λ (l : List DequeId). length l) (sym c.requires.pool)) c.loop.invariant.0 c.in-Got.ensures.round in
    got.put

pub returns-in-Got-clause-round : goal.returns-in-Got-clause-round
returns-in-Got-clause-round g c =
    let got = took c.self.inside.number c.workers.result c.args.self.now c.loop.self c.first_of.new.ends c.in-Got.name (ap (λ (v : HandValue). v.number) c.self.view_is)
    (c.workers.ensures ∙ ap (λ (l : List DequeId). length l) (sym c.requires.pool)) c.loop.invariant.0 c.in-Got.ensures.round in
    got.last

pub returns-in-Got-clause-only : goal.returns-in-Got-clause-only
returns-in-Got-clause-only g c =
    let got = took c.self.inside.number c.workers.result c.args.self.now c.loop.self c.first_of.new.ends c.in-Got.name (ap (λ (v : HandValue). v.number) c.self.view_is)
    (c.workers.ensures ∙ ap (λ (l : List DequeId). length l) (sym c.requires.pool)) c.loop.invariant.0 c.in-Got.ensures.round in
    got.only

pub loop-preserved : goal.loop-preserved
loop-preserved g c = (
  again c.self.inside.number c.workers.result c.args.self.now c.loop.self c.first_of.new.ends c.loop.invariant.0 c.in-Again.ensures.round,
  (λ i. (omega (arith, (c.loop.invariant.1 i).0, c.in-Again.ensures.empties i), omega (arith, (c.loop.invariant.1 i).1, c.in-Again.ensures.beaten i))),
  tt,
  tt,
)

pub returns-in-Dry-clause-same : goal.returns-in-Dry-clause-same
returns-in-Dry-clause-same g c =
    let whole : c.workers.result ≡ length c.args.self.now.deques = c.workers.ensures ∙ ap (λ (l : List DequeId). length l) (sym c.requires.pool) in
    let some : 0 < c.workers.result = omega (arith, whole, ap (λ (v : HandValue). length v.deques) c.self.view_is, length-map c.self.inside.ends.items deque_of, c.self.invariant.inside) in
    let none = stood c.self.inside.number c.workers.result c.args.self.now c.loop.self c.first_of.new.ends (ap (λ (v : HandValue). v.number) c.self.view_is) whole some c.loop.invariant.0 c.in-Dry.ensures.round in
    none.untouched.same

pub returns-in-Dry-clause-put : goal.returns-in-Dry-clause-put
returns-in-Dry-clause-put g c =
    let whole : c.workers.result ≡ length c.args.self.now.deques = c.workers.ensures ∙ ap (λ (l : List DequeId). length l) (sym c.requires.pool) in
    let some : 0 < c.workers.result = omega (arith, whole, ap (λ (v : HandValue). length v.deques) c.self.view_is, length-map c.self.inside.ends.items deque_of, c.self.invariant.inside) in
    let none = stood c.self.inside.number c.workers.result c.args.self.now c.loop.self c.first_of.new.ends (ap (λ (v : HandValue). v.number) c.self.view_is) whole some c.loop.invariant.0 c.in-Dry.ensures.round in
    none.untouched.put

pub returns-in-Dry-clause-first : goal.returns-in-Dry-clause-first
returns-in-Dry-clause-first g c =
    let whole : c.workers.result ≡ length c.args.self.now.deques = c.workers.ensures ∙ ap (λ (l : List DequeId). length l) (sym c.requires.pool) in
    let some : 0 < c.workers.result = omega (arith, whole, ap (λ (v : HandValue). length v.deques) c.self.view_is, length-map c.self.inside.ends.items deque_of, c.self.invariant.inside) in
    let none = stood c.self.inside.number c.workers.result c.args.self.now c.loop.self c.first_of.new.ends (ap (λ (v : HandValue). v.number) c.self.view_is) whole some c.loop.invariant.0 c.in-Dry.ensures.round in
    none.first

pub returns-in-Dry-clause-only : goal.returns-in-Dry-clause-only
returns-in-Dry-clause-only g c =
    let whole : c.workers.result ≡ length c.args.self.now.deques = c.workers.ensures ∙ ap (λ (l : List DequeId). length l) (sym c.requires.pool) in
    let some : 0 < c.workers.result = omega (arith, whole, ap (λ (v : HandValue). length v.deques) c.self.view_is, length-map c.self.inside.ends.items deque_of, c.self.invariant.inside) in
    let none = stood c.self.inside.number c.workers.result c.args.self.now c.loop.self c.first_of.new.ends (ap (λ (v : HandValue). v.number) c.self.view_is) whole some c.loop.invariant.0 c.in-Dry.ensures.round in
    λ one. ((λ _. none.only one), λ _. refl)
