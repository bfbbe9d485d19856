-- What a round of a hand's tries leaves.
use Rattle.std.proofs.Common.{◌≡◌, ℕ, zero, suc, ◌+◌, ◌%◌, ◌<◌, ◌≤◌, Bool, true, false, true≢false, List, [], ◌∷◌, ◌++◌, Some, None, Option, MatchOption, length, refl, sym, ap, ◌∙◌, subst, arith}
use Rattle.std.specs.List.{slice_get}
use Rattle.std.specs.Option.{option_to_list}
use Rattle.std.proofs.lemmas.Option.{none-some, slice_get_within, slice_get_past}
use Rattle.core_state.specs.declared.answer.Name.{Name}
use Rattle.steal_pool.specs.declared.deques.Tried.{Tried}
use Rattle.steal_pool.specs.declared.deques.Tried.TheVariants as tried
use Rattle.steal_pool.specs.declared.deques.Round.{Round}
use Rattle.steal_pool.specs.declared.deques.Round.TheVariants as round
use Rattle.steal_pool.specs.Tries.{Misses, IsRound}
use Rattle.steal_pool.specs.Pool.{DequeId, HandValue, IsOnly, IsSameHand}
use Rattle.steal_pool.specs.Taking.{TryOfHand, LastRound}

-- nothing was put or taken
pub record Untouched (old new : HandValue) : Type 0 where
  pub same : IsSameHand old new
  pub put : new.put ≡ old.put
  pub taken : new.taken ≡ old.taken

pub untouched_begins : (h : HandValue) → Untouched h h
untouched_begins h = record { same = (refl, refl); put = refl; taken = refl }

pub untouched_on : (a b c : HandValue) → Untouched a b → Untouched b c → Untouched a c
untouched_on a b c ab bc = record { same = (bc.same.0 ∙ ab.same.0, bc.same.1 ∙ ab.same.1); put = bc.put ∙ ab.put; taken = bc.taken ∙ ab.taken }

pub misses_leave : (own count : ℕ) (old : HandValue) {n : ℕ} {lost : Bool} {now : HandValue} → Misses TryOfHand own count old n lost now → Untouched old now
misses_leave own count old Misses.no_try = untouched_begins old
misses_leave own count old (Misses.one_empty k l mid now before made) =
    untouched_on old mid now (misses_leave own count old before) (record { same = made.0; put = made.1; taken = made.2.0 })
misses_leave own count old (Misses.one_beaten k l mid now before made) =
    untouched_on old mid now (misses_leave own count old before) (record { same = made.0; put = made.1; taken = made.2 })

-- where the only hand finds nothing, all that it put is taken
dry_only : (own count : ℕ) (old : HandValue) {n : ℕ} {lost : Bool} {now : HandValue} → Misses TryOfHand own count old n lost now → 0 < n → lost ≡ false → IsOnly old → length now.taken ≡ length now.put
dry_only own count old Misses.no_try some none only = absurd (omega arith)
dry_only own count old (Misses.one_empty k l mid now before made) some none only =
    let u = misses_leave own count old before in
    ap (λ (l : List Name). length l) made.2.0 ∙ (made.2.1 (ap (λ (l : List DequeId). length l) u.same.0 ∙ only) ∙ ap (λ (l : List Name). length l) (sym made.1))
dry_only own count old (Misses.one_beaten k l mid now before made) some none only = absurd (true≢false none)

-- a round that gets a name
pub record Took (old new : HandValue) (x : Name) : Type 0 where
  pub same : IsSameHand old new
  pub put : new.put ≡ old.put
  pub taken : new.taken ≡ old.taken ++ x ∷ []
  pub first : IsOnly old → Some x ≡ slice_get old.put (length old.taken)
  pub only : IsOnly old → (Some x ≡ None → length old.taken ≡ length old.put) × (length old.taken ≡ length old.put → Some x ≡ None)
  pub last : LastRound old (Some x) new

pub took : (own count : ℕ) (old before new : HandValue) (x : Name) → own ≡ old.number → count ≡ length old.deques → Untouched old before → IsRound TryOfHand own count before (round.Got x) new → Took old new x
took own count old before new x is whole u got =
    let mid : HandValue = got.2 in
    let v = untouched_on old before mid u (misses_leave own count before got.4) in
    let made = got.5 in
    let first : IsOnly old → slice_get old.put (length old.taken) ≡ Some x = λ only.
    sym (ap (λ (l : List Name). slice_get l (length old.taken)) v.put) ∙ (sym (ap (λ (l : List Name). slice_get mid.put (length l)) v.taken) ∙ made.2.1 (ap (λ (l : List DequeId). length l) v.same.0 ∙ only)) in
    record {
      same = (made.0.0 ∙ v.same.0, made.0.1 ∙ v.same.1);
      put = made.1 ∙ v.put;
      taken = made.2.0 ∙ ap (λ (l : List Name). l ++ x ∷ []) v.taken;
      first = λ only. sym (first only);
      only = λ only. ((λ e. absurd (none-some x (sym e))), λ all. absurd (omega (arith, all, slice_get_within old.put (length old.taken) x (first only))));
      last = (before, u.same, u.put, u.taken, subst (λ (y : ℕ × ℕ). IsRound TryOfHand y.0 y.1 before (round.Got x) new) (λ i. (is i, whole i)) got);
    }

-- a round that finds nothing
pub record Stood (old new : HandValue) : Type 0 where
  pub untouched : Untouched old new
  pub first : IsOnly old → None ≡ slice_get old.put (length old.taken)
  pub only : IsOnly old → length old.taken ≡ length old.put
  pub last : LastRound old None new

pub stood : (own count : ℕ) (old before new : HandValue) → own ≡ old.number → count ≡ length old.deques → 0 < count → Untouched old before → IsRound TryOfHand own count before round.Dry new → Stood old new
stood own count old before new is whole some u dry =
    let v = untouched_on old before new u (misses_leave own count before dry) in
    let only : IsOnly old → length old.taken ≡ length old.put = λ one.
    sym (ap (λ (l : List Name). length l) v.taken) ∙ (dry_only own count before dry some refl (ap (λ (l : List DequeId). length l) u.same.0 ∙ one) ∙ ap (λ (l : List Name). length l) v.put) in
    record {
      untouched = v;
      first = λ one. sym (slice_get_past old.put (length old.taken) (omega (arith, only one)));
      only = only;
      last = (before, u.same, u.put, u.taken, subst (λ (y : ℕ × ℕ). IsRound TryOfHand y.0 y.1 before round.Dry new) (λ i. (is i, whole i)) dry);
    }

-- a round after which a new one is made
pub again : (own count : ℕ) (old before new : HandValue) → Untouched old before → IsRound TryOfHand own count before round.Again new → Untouched old new
again own count old before new u misses = untouched_on old before new u (misses_leave own count before misses)
