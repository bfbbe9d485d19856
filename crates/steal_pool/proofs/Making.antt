-- A pool while its hands are made.
use Rattle.std.proofs.Common.{◌≡◌, ◌≢◌, ℕ, zero, suc, ◌+◌, ◌<◌, ◌≤◌, ◌⊎◌, List, [], ◌∷◌, ◌++◌, Some, None, map, length, set, reverse, sym, refl, ap, ◌∙◌, subst, inl, inr, ⊎_elim, append-nil, take, Bool, true, false, cond, arith}
use Rattle.std.specs.List.{sum_by, slice_get}
use Rattle.std.specs.declared.alloc.Global.{Global}
use Rattle.std.proofs.lemmas.List.{length-map}
use Rattle.std.proofs.lemmas.List.Sums.{sum_by-cons}
use Rattle.std.specs.Option.{option_map}
use Rattle.std.proofs.lemmas.List.{length_push, map-append, reverse-append}
use Rattle.std.proofs.lemmas.Option.{same_Some, none-some, slice_get_within, slice_get-map}
use Rattle.core_state.specs.declared.answer.Name.{Name}
use Rattle.crossbeam_deque.specs.declared.handles.Worker.{Worker}
use Rattle.crossbeam_deque.specs.Handles.{worker_deque, worker_view, worker_flavor, worker_index, worker_capacity}
use Rattle.steal_pool.specs.declared.note.Note.{Note}
use Rattle.steal_pool.specs.declared.end.End.{End}
use Rattle.steal_pool.specs.declared.end.Row.{Row}
use Rattle.steal_pool.specs.Pool.{DequeId, HandValue, PoolValue, IsFresh, AreFresh}
use Rattle.steal_pool.specs.Rule.{note}
use Rattle.steal_pool.specs.inner.Ends.{deque_of, note_of, first_room, IsWired, IsPlaced, OwnsPart, IsWell, ends_weight}
use Rattle.steal_pool.specs.inner.Building.{whole_of, IsNew, AreOwners, AreEnds, AreRows}
use Rattle.steal_pool.proofs.Lists.{got_set, got_snoc, map_same, take_next}

abbrev Own : Type 0 → Type 0
Own P = Worker Name Global Note P

pub owners_more : {P : Type 0} (owners : List (Own P)) (own : Own P) → AreOwners 0 owners → IsNew own → whole_of own ≡ 1 → AreOwners 0 (owners ++ own ∷ [])
owners_more owners own all new whole k x there =
    ⊎_elim (λ t. all k x t) (λ t. subst (λ y. IsNew y × (k < 0 → whole_of y ≡ 0) × (0 ≤ k → whole_of y ≡ 1)) t.1 (new, (λ h. absurd (omega arith)), λ _. whole)) (got_snoc owners own x k there)

-- the owners while the ends of one hand are made: those below `made` have a part for it
pub record AreMaking {P : Type 0} (number made : ℕ) (deques : List DequeId) (owners : List (Own P)) (ends : List End) : Type 0 where
  pub same : map worker_deque owners ≡ deques
  pub owners_are : (k : ℕ) (own : Own P) → slice_get owners k ≡ Some own
      → IsNew own × (k < made → (k < number + 1 → whole_of own ≡ number + 1) × (number + 1 ≤ k → whole_of own ≡ number + 1 + 1))
      × (made ≤ k → (k < number → whole_of own ≡ number) × (number ≤ k → whole_of own ≡ number + 1))
  pub count : length ends ≡ made
  pub deques_are : (k : ℕ) (e : End) → slice_get ends k ≡ Some e → slice_get deques k ≡ Some (deque_of e)
  pub ends_are : (k : ℕ) (e : End) → slice_get ends k ≡ Some e → IsPlaced number k e × ((note_of e).taken ≡ [])

pub making_begins : {P : Type 0} (number : ℕ) (owners : List (Own P)) → AreOwners number owners → AreMaking number 0 (map worker_deque owners) owners []
making_begins number owners all = record {
  same = refl;
  owners_are = λ k own there. let a = all k own there in (a.0, (λ h. absurd (omega arith)), λ _. (a.1, a.2));
  count = refl;
  deques_are = λ k e there. absurd (none-some _ there);
  ends_are = λ k e there. absurd (none-some _ there);
}

abbrev IsOwner : {P : Type 0} → ℕ → ℕ → ℕ → Own P → Type 0
IsOwner number made k own =
    IsNew own × (k < made → (k < number + 1 → whole_of own ≡ number + 1) × (number + 1 ≤ k → whole_of own ≡ number + 1 + 1))
    × (made ≤ k → (k < number → whole_of own ≡ number) × (number ≤ k → whole_of own ≡ number + 1))

abbrev IsEnd : ℕ → ℕ → End → Type 0
IsEnd number k e = IsPlaced number k e × ((note_of e).taken ≡ [])

module _ {P : Type 0} (number made : ℕ) (deques : List DequeId) (owners : List (Own P)) (ends : List End) (own own' : Own P) (e : End) (m : AreMaking number made deques owners ends) (at : slice_get owners made ≡ Some own)
    (new : IsNew own') (deque : worker_deque own' ≡ worker_deque own) (fits : deque_of e ≡ worker_deque own) (wired : IsWired e) where
  making_with : IsOwner number (made + 1) made own' → IsEnd number made e → AreMaking number (made + 1) deques (set owners made own') (ends ++ e ∷ [])
  making_with is_owner is_end = record {
    same = map_same worker_deque owners made own own' at deque ∙ m.same;
    owners_are = λ k x there. ⊎_elim (λ (t : (k ≡ made) × (own' ≡ x)). subst (λ (y : ℕ × Own P). IsOwner number (made + 1) y.0 y.1) (λ i. (sym t.0 i, t.1 i)) is_owner)
        (λ (t : (k ≢ made) × (slice_get owners k ≡ Some x)).
        let a = m.owners_are k x t.1 in
        let apart = t.0 in
        (a.0, (λ h. a.1 (omega arith)), λ h. a.2 (omega arith)))
        (got_set owners made k own' x there);
    count = length_push ends e ∙ ap (λ n. n + 1) m.count;
    deques_are = λ k x there. ⊎_elim (λ t. m.deques_are k x t)
        (λ (t : (k ≡ length ends) × (e ≡ x)). ap (slice_get deques) (t.0 ∙ m.count) ∙ (at_deque ∙ ap (λ (y : End). Some (deque_of y)) t.1)) (got_snoc ends e x k there);
    ends_are = λ k x there. ⊎_elim (λ t. m.ends_are k x t)
        (λ (t : (k ≡ length ends) × (e ≡ x)). subst (λ (y : ℕ × End). IsEnd number y.0 y.1) (λ i. (sym (t.0 ∙ m.count) i, t.1 i)) is_end) (got_snoc ends e x k there);
  }
    where
      at_deque : slice_get deques made ≡ Some (deque_of e)
      at_deque = ap (λ l. slice_get l made) (sym m.same) ∙ (slice_get-map worker_deque owners made ∙ (ap (option_map worker_deque) at ∙ ap Some (sym fits)))

  pub making_spare : made ≡ number → whole_of own' ≡ whole_of own + 0 → note_of e ≡ note 0 0 [] [] → AreMaking number (made + 1) deques (set owners made own') (ends ++ e ∷ [])
  making_spare is whole noted =
      let a = (m.owners_are made own at).2 (omega arith) in let b = a.1 (omega arith) in
      making_with (new, (λ _. ((λ _. omega arith), λ h. absurd (omega arith))), λ h. absurd (omega arith))
      ((wired, (λ _. (ap (λ (v : Note). v.parts) noted, ap (λ (v : Note). v.taken) noted)), λ apart. absurd (apart is)), ap (λ (v : Note). v.taken) noted)

  pub making_part : made ≢ number → whole_of own' ≡ whole_of own + 1 → note_of e ≡ note 1 0 [] [] → AreMaking number (made + 1) deques (set owners made own') (ends ++ e ∷ [])
  making_part apart whole noted =
      let a = (m.owners_are made own at).2 (omega arith) in
      making_with
      (new, (λ _. ((λ h. let lt : made < number = omega arith in let b = a.0 lt in omega arith), λ h. let b = a.1 (omega arith) in omega arith)), λ h. absurd (omega arith))
      ((wired, (λ is. absurd (apart is)), λ _. ap (λ (v : Note). v.parts) noted), ap (λ (v : Note). v.taken) noted)

  pub making_step : (spare : Bool) → (spare ≡ true → made ≡ number) → (spare ≡ false → made ≢ number) → whole_of own' ≡ whole_of own + cond spare 0 1 → note_of e ≡ note (cond spare 0 1) 0 [] []
      → AreMaking number (made + 1) deques (set owners made own') (ends ++ e ∷ [])
  making_step true is apart whole noted = making_spare (is refl) whole noted
  making_step false is apart whole noted = making_part (apart refl) whole noted

pub map_from : {A B : Type 0} (f : A → B) (xs : List A) (ys : List B) → length xs ≡ length ys → ((k : ℕ) (x : A) → slice_get xs k ≡ Some x → slice_get ys k ≡ Some (f x)) → map f xs ≡ ys
map_from f [] [] long each = refl
map_from f [] (y ∷ ys) long each = absurd (omega arith)
map_from f (x ∷ xs) [] long each = absurd (omega arith)
map_from f (x ∷ xs) (y ∷ ys) long each = λ i. (same_Some _ _ (sym (each 0 x refl)) i) ∷ (map_from f xs ys (omega arith) (λ k z there. each (suc k) z there) i)

pub making_ends : {P : Type 0} (number made : ℕ) (deques : List DequeId) (owners : List (Own P)) (ends : List End) → AreMaking number made deques owners ends → length owners ≤ made → made ≤ length owners
    → AreOwners (number + 1) owners × AreEnds number deques ends
making_ends number made deques owners ends m le ge =
    let as_long : length ends ≡ length deques = omega (arith, m.count, ap (λ (l : List DequeId). length l) m.same, length-map owners worker_deque) in
    ((λ k own there. let a = m.owners_are k own there in let inside = slice_get_within owners k own there in let b = a.1 (omega arith) in (a.0, b.0, b.1)), (map_from deque_of ends deques as_long m.deques_are, m.ends_are))

pub rows_more : (deques : List DequeId) (rows : List Row) (row : Row) → AreRows deques rows → AreEnds (length rows) deques row.ends.items → AreRows deques (rows ++ row ∷ [])
rows_more deques rows row all last k x there =
    ⊎_elim (λ t. all k x t) (λ (t : (k ≡ length rows) × (row ≡ x)). subst (λ (y : ℕ × Row). AreEnds y.0 deques y.1.ends.items) (λ i. (sym t.0 i, t.1 i)) last) (got_snoc rows row x k there)

-- a hand
no_weight : (weight : Name → ℕ) (ends : List End) → ((k : ℕ) (e : End) → slice_get ends k ≡ Some e → (note_of e).taken ≡ []) → ends_weight weight ends ≡ 0
no_weight weight [] each = refl
no_weight weight (e ∷ ends) each =
    let a = sum_by-cons (λ (e : End). sum_by weight (note_of e).taken) e ends in
    let b : sum_by weight (note_of e).taken ≡ 0 = ap (sum_by weight) (each 0 e refl) in
    omega (arith, no_weight weight ends (λ k x there. each (suc k) x there))

pub new_is_well : {P : Type 0} (number : ℕ) (own : Own P) (deques : List DequeId) (ends : List End) → IsNew own → whole_of own ≡ length deques → length deques ≤ 64 → slice_get deques number ≡ Some (worker_deque own)
    → AreEnds number deques ends → IsWell number own ends []
new_is_well number own deques ends new whole few at are =
    let as_long : length ends ≡ length deques = sym (length-map ends deque_of) ∙ ap (λ (l : List DequeId). length l) are.0 in
    let inside = slice_get_within deques number (worker_deque own) at in record {
      inside = omega arith;
      few = omega arith;
      owns = record {
        first_out = new.first_out;
        part = ap (λ (v : Note). v.parts) new.notes;
        whole = whole ∙ sym as_long;
        pushed = omega (arith, new.pushed);
        room = new.room;
      };
      at_home = ap (λ l. slice_get l number) are.0 ∙ at;
      placed = λ k e there. (are.1 k e there).0;
      weighed = λ weight.
          let a : sum_by weight (worker_view own).taken ≡ 0 = ap (λ (v : Note). sum_by weight v.taken) new.notes in
          let b = no_weight weight ends (λ k e there. (are.1 k e there).1) in
          omega arith;
    }

-- the other sides of the deques, so far
pub thieves_more : {A B D : Type 0} (f : A → D) (g : B → D) (thieves : List A) (thief : A) (owners : List B) (own : B) (k : ℕ) → map f thieves ≡ map g (take k owners) → slice_get owners k ≡ Some own → f thief ≡ g own
    → map f (thieves ++ thief ∷ []) ≡ map g (take (k + 1) owners)
thieves_more f g thieves thief owners own k so at is =
    map-append f thieves (thief ∷ [])
    ∙ (ap (λ l. l ++ f thief ∷ []) so ∙ (ap (λ y. map g (take k owners) ++ y ∷ []) is ∙ (sym (map-append g (take k owners) (own ∷ [])) ∙ ap (map g) (sym (take_next owners k own at)))))

-- the hands, the last one first
pub fresh_more : (deques : List DequeId) (number : ℕ) (hand : HandValue) (hands : List HandValue) → IsFresh (record { deques = deques }) number hand → AreFresh (record { deques = deques }) (number + 1) (reverse hands)
    → AreFresh (record { deques = deques }) number (reverse (hands ++ hand ∷ []))
fresh_more deques number hand hands fresh all = subst (AreFresh (record { deques = deques }) number) (sym (reverse-append hands (hand ∷ []))) (fresh, all)
