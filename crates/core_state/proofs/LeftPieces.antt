-- The work that is left in a state, by what is left at its entries.
use Rattle.std.proofs.Common.{◌≡◌, ℕ, List, true, false, refl, subst, sym, ap, ◌∙◌}
use Rattle.std.specs.Prelude.{Contains, Option, Some, None, IsSome, IsTrue, is_some}
use Rattle.std.specs.Option.{option_map, option_map_or}
use mathlib.Core.Logic.{inl, inr}
use Rattle.std.specs.FinMap as maps
use Rattle.std.specs.FinSet as sets
use Rattle.std.specs.Ordering.{nat_cmp}
use Rattle.builder_model.specs.declared.state.Mark.TheVariants as marks
use Rattle.builder_model.specs.declared.state.Waiter.{Waiter}
use Rattle.builder_model.specs.State.{BuilderState, EndEntry, TerminatorEntry, IsStart, StandsAt}
use Rattle.builder_model.specs.Left.{Work, IsLeft, HasNothingLeft}
use Rattle.address_map.specs.Found.{IsFoundAmong}
use Rattle.core_state.specs.inner.Remaining.{LeftAtStart, LeftAtEnd, LeftAtTerminator}

false_is : false ≡ true → ⊥
false_is e = cc

not_there : (x : ℕ) → None ≡ Some x → ⊥
not_there x e = cc

same_there : (x y : ℕ) → Some x ≡ Some y → x ≡ y
same_there x y e = cc

module _ (seeds : List ℕ) (state : BuilderState) where
  by_start : (s : ℕ) (entry : _) (work : Work) → maps.get state.starts s ≡ Some entry → LeftAtStart s entry work → IsLeft seeds state work
  by_start s entry work has (LeftAtStart.unparsed is) = IsLeft.unparsed (has ∙ ap Some is)

  by_end : (k : ℕ) (entry : EndEntry) (work : Work) → maps.get state.ends k ≡ Some entry → LeftAtEnd state.starts k entry work → IsLeft seeds state work
  by_end k entry work has (LeftAtEnd.displaced x moved) =
      IsLeft.displaced x (subst (λ (o : Option EndEntry). IsTrue (sets.contains (option_map_or (λ (e : EndEntry). e.moved) o sets.empty) x)) (sym has) moved)
  by_end k entry work has (LeftAtEnd.unstarted apart) = IsLeft.unstarted_stand k (inl (ap (option_map (λ (e : EndEntry). e.near)) has)) apart

  by_terminator : (k : ℕ) (entry : TerminatorEntry) (work : Work) → maps.get state.terminators k ≡ Some entry → LeftAtTerminator k entry work → IsLeft seeds state work
  by_terminator k entry work has (LeftAtTerminator.undone apart) =
      IsLeft.undone (ap is_some has) (λ done. apart (subst (λ (o : Option TerminatorEntry). IsTrue (option_map_or (λ (e : TerminatorEntry). e.done) o false)) has done))
  by_terminator k entry work has (LeftAtTerminator.untold w returned untold) =
      IsLeft.untold w (subst (λ (o : Option TerminatorEntry). IsTrue (option_map_or (λ (e : TerminatorEntry). e.returned) o false)) (sym has) returned)
      (subst (λ (o : Option TerminatorEntry). maps.get (option_map_or (λ (e : TerminatorEntry). e.waiters) o maps.empty) w ≡ Some false) (sym has) untold)

  pub left_of_start : (work : Work) → IsFoundAmong LeftAtStart state.starts work → IsLeft seeds state work
  left_of_start work left = by_start left.key left.entry work left.has left.there

  pub left_of_end : (work : Work) → IsFoundAmong (LeftAtEnd state.starts) state.ends work → IsLeft seeds state work
  left_of_end work left = by_end left.key left.entry work left.has left.there

  pub left_of_terminator : (work : Work) → IsFoundAmong LeftAtTerminator state.terminators work → IsLeft seeds state work
  left_of_terminator work left = by_terminator left.key left.entry work left.has left.there

  -- whoever is near or displaced at an end has its entry
  near_left : (k x : ℕ) (o : Option EndEntry) → maps.get state.ends k ≡ o → option_map (λ (e : EndEntry). e.near) o ≡ Some x → ¬ IsStart state.starts x → ((work : Work) → ¬ IsFoundAmong (LeftAtEnd state.starts) state.ends work) → ⊥
  near_left k x None has near apart none = not_there x near
  near_left k x (Some entry) has near apart none =
      none (Work.Want entry.near) (record { key = k; entry = entry; has = has; there = LeftAtEnd.unstarted (λ is. apart (subst (λ z. IsStart state.starts z) (same_there entry.near x near) is)) })

  moved_left : (k x : ℕ) (o : Option EndEntry) → maps.get state.ends k ≡ o → IsTrue (sets.contains (option_map_or (λ (e : EndEntry). e.moved) o sets.empty) x) → ((work : Work) → ¬ IsFoundAmong (LeftAtEnd state.starts) state.ends work) → ⊥
  moved_left k x None has moved none = false_is (sym (sets.contains-empty nat_cmp x) ∙ moved)
  moved_left k x (Some entry) has moved none = none (Work.Move k) (record { key = k; entry = entry; has = has; there = LeftAtEnd.displaced x moved })

  stand_left : (k x : ℕ) → StandsAt state.ends k x → ¬ IsStart state.starts x → ((work : Work) → ¬ IsFoundAmong (LeftAtEnd state.starts) state.ends work) → ⊥
  stand_left k x (inl near) apart none = near_left k x (maps.get state.ends k) refl near apart none
  stand_left k x (inr moved) apart none = moved_left k x (maps.get state.ends k) refl moved none

  undone_left : (k : ℕ) (o : Option TerminatorEntry) → maps.get state.terminators k ≡ o → IsSome o → ¬ IsTrue (option_map_or (λ (e : TerminatorEntry). e.done) o false) → ((work : Work) → ¬ IsFoundAmong LeftAtTerminator state.terminators work) → ⊥
  undone_left k None has entered apart none = false_is entered
  undone_left k (Some entry) has entered apart none = none (Work.Edges k) (record { key = k; entry = entry; has = has; there = LeftAtTerminator.undone apart })

  untold_left : (k : ℕ) (w : Waiter) (o : Option TerminatorEntry) → maps.get state.terminators k ≡ o → IsTrue (option_map_or (λ (e : TerminatorEntry). e.returned) o false) → maps.get (option_map_or (λ (e : TerminatorEntry). e.waiters) o maps.empty) w ≡ Some false
      → ((work : Work) → ¬ IsFoundAmong LeftAtTerminator state.terminators work) → ⊥
  untold_left k w None has returned untold none = false_is returned
  untold_left k w (Some entry) has returned untold none = none (Work.Tell k) (record { key = k; entry = entry; has = has; there = LeftAtTerminator.untold w returned untold })

  pub nothing_left : ((s : ℕ) → Contains seeds s → IsStart state.starts s)
      → ((work : Work) → ¬ IsFoundAmong LeftAtStart state.starts work) → ((work : Work) → ¬ IsFoundAmong (LeftAtEnd state.starts) state.ends work) → ((work : Work) → ¬ IsFoundAmong LeftAtTerminator state.terminators work)
      → HasNothingLeft seeds state
  nothing_left known starts ends terminators work (IsLeft.unstarted_seed {s = s} is apart) = apart (known s is)
  nothing_left known starts ends terminators work (IsLeft.unparsed {s = s} is) = starts (Work.Parse s) (record { key = s; entry = marks.Wanted; has = is; there = LeftAtStart.unparsed refl })
  nothing_left known starts ends terminators work (IsLeft.unstarted_stand k {x = x} stands apart) = stand_left k x stands apart ends
  nothing_left known starts ends terminators work (IsLeft.displaced {k = k} x moved) = moved_left k x (maps.get state.ends k) refl moved ends
  nothing_left known starts ends terminators work (IsLeft.undone {k = k} entered apart) = undone_left k (maps.get state.terminators k) refl entered apart terminators
  nothing_left known starts ends terminators work (IsLeft.untold {k = k} w returned untold) = untold_left k w (maps.get state.terminators k) refl returned untold terminators
