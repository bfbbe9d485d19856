use Rattle.std.proofs.Common.{◌≡◌, ◌++◌, ◌∷◌, ◌∙◌, List, [], ap, append-nil, append_assoc, arith, subst, sym}
use Rattle.std.specs.Vec.Iter.{into_iter_items}
use Rattle.steal_pool.specs.Pool.{HandValue}
use Rattle.steal_pool.specs.inner.Building.{AreApart}
use Rattle.steal_pool.proofs.Lists.{nothing_in}
use Rattle.steal_pool.proofs.Gathering.{apart_with}
use Rattle.steal_pool.proofs.pool.apart.Goals as goal

pub loop-hand-preserved : goal.loop-hand-preserved
loop-hand-preserved c =
    let inv = c.loop-hand.invariant in
    let yielded = c.loop-hand.yielded in
    let hand = c.in-Some.hand in (
      append_assoc yielded (hand ∷ []) (into_iter_items c.next.new.self) ∙ (ap (λ (l : List HandValue). yielded ++ l) (sym c.in-Some.ensures.steps.0) ∙ inv.0),
      apart_with yielded c.loop-hand.owners.items c.loop-hand.rows.items _ _ hand _ _ inv.1 c.into_parts-own.ensures c.in_ok-push.ensures.items c.in_ok-push-2.ensures.items,
    )

pub returns : goal.returns
returns c =
    let inv = c.loop-hand.invariant in
    let it = c.loop-hand.hand-iterator in
    let none : into_iter_items it ≡ [] = nothing_in (into_iter_items it) (omega (arith, c.in-None.ensures.steps.0, it.rest.ok.0)) in
    let all : c.loop-hand.yielded ≡ c.args.hands.items = sym (append-nil c.loop-hand.yielded) ∙ (ap (λ (l : List HandValue). c.loop-hand.yielded ++ l) (sym none) ∙ inv.0) in
    subst (λ (l : List HandValue). AreApart l c.loop-hand.owners.items c.loop-hand.rows.items) all inv.1
