use Rattle.std.proofs.Common.{◌≤◌, slice_set, ap, arith, refl, subst}
use Rattle.std.proofs.lemmas.Option.{slice_get_read}
use Rattle.steal_pool.specs.declared.deques.Tried.TheVariants as tried
use Rattle.steal_pool.specs.declared.end.End.{End}
use Rattle.steal_pool.specs.inner.Ends.{deque_of}
use Rattle.steal_pool.specs.Taking.{TryOfHand, CountsTry}
use Rattle.steal_pool.proofs.Rules.{takes, finds}
use Rattle.steal_pool.proofs.HandTries.{shown, own_got, own_empty, own_empty_well, try_counts}
use Rattle.steal_pool.proofs.hand.Hand.try_own.Goals as goal

pub pop_as-requires-clause-fifo : goal.pop_as-requires-clause-fifo
pop_as-requires-clause-fifo c = λ _. takes _ _ (omega (arith, c.self.invariant.owns.part))

pub pop_as-requires-clause-empty : goal.pop_as-requires-clause-empty
pop_as-requires-clause-empty c = finds _ _

pub invariant_of-self-in-None : goal.invariant_of-self-in-None
invariant_of-self-in-None c =
    own_empty_well _ _ _ _ _ _ _ _ c.self.invariant (slice_get_read _ _ _ _ refl c.self.invariant.inside c.index_mut.ensures.value)
    c.in-None.ensures.same.0 c.in-None.ensures.same.1 c.in-None.ensures.rule.0 c.found_empty.ensures.same

pub returns-in-Some-clause-made : goal.returns-in-Some-clause-made
returns-in-Some-clause-made c =
    let h = c.self.inside in
    subst (λ v. TryOfHand v v.number (tried.Got c.in-Some.name) (shown h.number c.pop_as.new.self h.ends.items c.with-self-inside.result.names)) c.self.view_is
    (own_got h.number h.own c.pop_as.new.self h.ends.items h.noted.names c.with-self-inside.result.names c.in-Some.name c.self.invariant c.with-self-inside.ensures c.in-Some.ensures.rule.0 c.in-Some.ensures.rule.1)

pub returns-in-None-clause-made : goal.returns-in-None-clause-made
returns-in-None-clause-made c =
    let h = c.self.inside in
    let e' = c.found_empty.new.self in
    subst (λ v. TryOfHand v v.number tried.Empty (shown h.number c.pop_as.new.self (slice_set h.ends.items h.number e') h.noted.names)) c.self.view_is
    (own_empty h.number h.own c.pop_as.new.self h.ends.items h.noted.names c.index_mut.result.now e' c.self.invariant
    (slice_get_read _ _ _ _ refl c.self.invariant.inside c.index_mut.ensures.value) (ap deque_of c.found_empty.ensures.same) c.in-None.ensures.rule.0 c.in-None.ensures.rule.1)

pub returns-in-None-clause-counts : goal.returns-in-None-clause-counts
returns-in-None-clause-counts c =
    let h = c.self.inside in
    let e = c.index_mut.result.now in
    let e' = c.found_empty.new.self in
    let no_more : e.beaten ≤ e'.beaten = omega (arith, ap (λ (x : End). x.beaten) c.found_empty.ensures.same) in
    subst (λ v. CountsTry v v.number tried.Empty (shown h.number c.pop_as.new.self (slice_set h.ends.items h.number e') h.noted.names)) c.self.view_is
    (try_counts h.number h.number h.own c.pop_as.new.self h.ends.items h.noted.names h.noted.names e e'
    (slice_get_read _ _ _ _ refl c.self.invariant.inside c.index_mut.ensures.value) c.found_empty.ensures.more no_more tried.Empty c.found_empty.ensures.rose)
