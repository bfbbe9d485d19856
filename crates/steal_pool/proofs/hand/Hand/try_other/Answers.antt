use Rattle.std.proofs.Common.{◌<◌, ◌≢◌, ◌∙◌, length, slice_set, ap, arith, refl, subst}
use Rattle.std.proofs.lemmas.List.{length-map}
use Rattle.std.proofs.lemmas.Option.{slice_get_read}
use Rattle.steal_pool.specs.declared.deques.Tried.TheVariants as tried
use Rattle.steal_pool.specs.Pool.{HandValue}
use Rattle.steal_pool.specs.inner.Ends.{deque_of}
use Rattle.steal_pool.specs.Taking.{TryOfHand, CountsTry}
use Rattle.steal_pool.proofs.HandTries.{shown, other_well, other_made, try_counts}
use Rattle.steal_pool.proofs.hand.Hand.try_other.Goals as goal

pub invariant_of-self : goal.invariant_of-self
invariant_of-self c =
    let h = c.self.inside in
    let e = c.index_mut.result.now in
    let e' = c.steal.new.self in
    let inside : c.args.i < length h.ends.items = omega (arith, c.requires.deque, ap (λ (v : HandValue). length v.deques) c.self.view_is, length-map h.ends.items deque_of) in
    let apart : c.args.i ≢ h.number = λ is. c.requires.other (is ∙ ap (λ (v : HandValue). v.number) c.self.view_is) in
    let at = slice_get_read h.ends.items (length h.ends.items) c.args.i e refl inside c.index_mut.ensures.value in
    other_well h.number c.args.i h.own h.ends.items h.noted.names c.with-self-inside.result.names e e' c.self.invariant at apart c.in-Got.ensures.deque c.in-Got.ensures.wired c.in-Got.ensures.part (tried.Got c.in-Got.name) c.in-Got.ensures.taken c.with-self-inside.ensures

pub returns-in-Got-clause-made : goal.returns-in-Got-clause-made
returns-in-Got-clause-made c =
    let h = c.self.inside in
    let e = c.index_mut.result.now in
    let e' = c.steal.new.self in
    let inside : c.args.i < length h.ends.items = omega (arith, c.requires.deque, ap (λ (v : HandValue). length v.deques) c.self.view_is, length-map h.ends.items deque_of) in
    let apart : c.args.i ≢ h.number = λ is. c.requires.other (is ∙ ap (λ (v : HandValue). v.number) c.self.view_is) in
    let at = slice_get_read h.ends.items (length h.ends.items) c.args.i e refl inside c.index_mut.ensures.value in
    subst (λ v. TryOfHand v c.args.i (tried.Got c.in-Got.name) (shown h.number h.own (slice_set h.ends.items c.args.i e') c.with-self-inside.result.names)) c.self.view_is
    (other_made h.number c.args.i h.own h.ends.items h.noted.names c.with-self-inside.result.names e e' c.self.invariant at apart c.in-Got.ensures.deque (tried.Got c.in-Got.name) c.with-self-inside.ensures)

pub returns-in-Got-clause-counts : goal.returns-in-Got-clause-counts
returns-in-Got-clause-counts c =
    let h = c.self.inside in
    let e = c.index_mut.result.now in
    let e' = c.steal.new.self in
    let inside : c.args.i < length h.ends.items = omega (arith, c.requires.deque, ap (λ (v : HandValue). length v.deques) c.self.view_is, length-map h.ends.items deque_of) in
    let apart : c.args.i ≢ h.number = λ is. c.requires.other (is ∙ ap (λ (v : HandValue). v.number) c.self.view_is) in
    let at = slice_get_read h.ends.items (length h.ends.items) c.args.i e refl inside c.index_mut.ensures.value in
    subst (λ v. CountsTry v c.args.i (tried.Got c.in-Got.name) (shown h.number h.own (slice_set h.ends.items c.args.i e') c.with-self-inside.result.names)) c.self.view_is
    (try_counts h.number c.args.i h.own h.own h.ends.items h.noted.names c.with-self-inside.result.names e e' at c.in-Got.ensures.empties c.in-Got.ensures.beaten (tried.Got c.in-Got.name) c.in-Got.ensures.cause)

pub invariant_of-self-in-Beaten : goal.invariant_of-self-in-Beaten
invariant_of-self-in-Beaten c =
    let h = c.self.inside in
    let e = c.index_mut.result.now in
    let e' = c.steal.new.self in
    let inside : c.args.i < length h.ends.items = omega (arith, c.requires.deque, ap (λ (v : HandValue). length v.deques) c.self.view_is, length-map h.ends.items deque_of) in
    let apart : c.args.i ≢ h.number = λ is. c.requires.other (is ∙ ap (λ (v : HandValue). v.number) c.self.view_is) in
    let at = slice_get_read h.ends.items (length h.ends.items) c.args.i e refl inside c.index_mut.ensures.value in
    other_well h.number c.args.i h.own h.ends.items h.noted.names h.noted.names e e' c.self.invariant at apart c.in-Beaten.ensures.deque c.in-Beaten.ensures.wired c.in-Beaten.ensures.part tried.Beaten c.in-Beaten.ensures.taken refl

pub returns-in-Beaten-clause-made : goal.returns-in-Beaten-clause-made
returns-in-Beaten-clause-made c =
    let h = c.self.inside in
    let e = c.index_mut.result.now in
    let e' = c.steal.new.self in
    let inside : c.args.i < length h.ends.items = omega (arith, c.requires.deque, ap (λ (v : HandValue). length v.deques) c.self.view_is, length-map h.ends.items deque_of) in
    let apart : c.args.i ≢ h.number = λ is. c.requires.other (is ∙ ap (λ (v : HandValue). v.number) c.self.view_is) in
    let at = slice_get_read h.ends.items (length h.ends.items) c.args.i e refl inside c.index_mut.ensures.value in
    subst (λ v. TryOfHand v c.args.i tried.Beaten (shown h.number h.own (slice_set h.ends.items c.args.i e') h.noted.names)) c.self.view_is
    (other_made h.number c.args.i h.own h.ends.items h.noted.names h.noted.names e e' c.self.invariant at apart c.in-Beaten.ensures.deque tried.Beaten refl)

pub returns-in-Beaten-clause-counts : goal.returns-in-Beaten-clause-counts
returns-in-Beaten-clause-counts c =
    let h = c.self.inside in
    let e = c.index_mut.result.now in
    let e' = c.steal.new.self in
    let inside : c.args.i < length h.ends.items = omega (arith, c.requires.deque, ap (λ (v : HandValue). length v.deques) c.self.view_is, length-map h.ends.items deque_of) in
    let apart : c.args.i ≢ h.number = λ is. c.requires.other (is ∙ ap (λ (v : HandValue). v.number) c.self.view_is) in
    let at = slice_get_read h.ends.items (length h.ends.items) c.args.i e refl inside c.index_mut.ensures.value in
    subst (λ v. CountsTry v c.args.i tried.Beaten (shown h.number h.own (slice_set h.ends.items c.args.i e') h.noted.names)) c.self.view_is
    (try_counts h.number c.args.i h.own h.own h.ends.items h.noted.names h.noted.names e e' at c.in-Beaten.ensures.empties c.in-Beaten.ensures.beaten tried.Beaten c.in-Beaten.ensures.cause)

pub invariant_of-self-in-Empty : goal.invariant_of-self-in-Empty
invariant_of-self-in-Empty c =
    let h = c.self.inside in
    let e = c.index_mut.result.now in
    let e' = c.steal.new.self in
    let inside : c.args.i < length h.ends.items = omega (arith, c.requires.deque, ap (λ (v : HandValue). length v.deques) c.self.view_is, length-map h.ends.items deque_of) in
    let apart : c.args.i ≢ h.number = λ is. c.requires.other (is ∙ ap (λ (v : HandValue). v.number) c.self.view_is) in
    let at = slice_get_read h.ends.items (length h.ends.items) c.args.i e refl inside c.index_mut.ensures.value in
    other_well h.number c.args.i h.own h.ends.items h.noted.names h.noted.names e e' c.self.invariant at apart c.in-Empty.ensures.deque c.in-Empty.ensures.wired c.in-Empty.ensures.part tried.Empty c.in-Empty.ensures.taken refl

pub returns-in-Empty-clause-made : goal.returns-in-Empty-clause-made
returns-in-Empty-clause-made c =
    let h = c.self.inside in
    let e = c.index_mut.result.now in
    let e' = c.steal.new.self in
    let inside : c.args.i < length h.ends.items = omega (arith, c.requires.deque, ap (λ (v : HandValue). length v.deques) c.self.view_is, length-map h.ends.items deque_of) in
    let apart : c.args.i ≢ h.number = λ is. c.requires.other (is ∙ ap (λ (v : HandValue). v.number) c.self.view_is) in
    let at = slice_get_read h.ends.items (length h.ends.items) c.args.i e refl inside c.index_mut.ensures.value in
    subst (λ v. TryOfHand v c.args.i tried.Empty (shown h.number h.own (slice_set h.ends.items c.args.i e') h.noted.names)) c.self.view_is
    (other_made h.number c.args.i h.own h.ends.items h.noted.names h.noted.names e e' c.self.invariant at apart c.in-Empty.ensures.deque tried.Empty refl)

pub returns-in-Empty-clause-counts : goal.returns-in-Empty-clause-counts
returns-in-Empty-clause-counts c =
    let h = c.self.inside in
    let e = c.index_mut.result.now in
    let e' = c.steal.new.self in
    let inside : c.args.i < length h.ends.items = omega (arith, c.requires.deque, ap (λ (v : HandValue). length v.deques) c.self.view_is, length-map h.ends.items deque_of) in
    let apart : c.args.i ≢ h.number = λ is. c.requires.other (is ∙ ap (λ (v : HandValue). v.number) c.self.view_is) in
    let at = slice_get_read h.ends.items (length h.ends.items) c.args.i e refl inside c.index_mut.ensures.value in
    subst (λ v. CountsTry v c.args.i tried.Empty (shown h.number h.own (slice_set h.ends.items c.args.i e') h.noted.names)) c.self.view_is
    (try_counts h.number c.args.i h.own h.own h.ends.items h.noted.names h.noted.names e e' at c.in-Empty.ensures.empties c.in-Empty.ensures.beaten tried.Empty c.in-Empty.ensures.cause)
