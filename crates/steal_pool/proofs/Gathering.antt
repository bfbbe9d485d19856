-- A pool while its hands are gathered.
use Rattle.std.proofs.Common.{◌≡◌, ◌≢◌, ℕ, zero, suc, ◌+◌, ◌-◌, ◌<◌, ◌≤◌, ◌⊎◌, List, [], ◌∷◌, ◌++◌, Some, None, map, length, set, take, sym, refl, ap, ◌∙◌, subst, inl, inr, ⊎_elim, append-nil, append_assoc, length-append, length-set, arith}
use native.Mathlib.Decide.{ℕ_discrete}
use Rattle.std.specs.List.{sum_by, slice_get, flat_map}
use Rattle.std.specs.Option.{option_map}
use Rattle.std.specs.declared.alloc.Global.{Global}
use Rattle.std.proofs.lemmas.List.{length-map, length_push, take_all}
use Rattle.std.proofs.lemmas.List.Sums.{sum_by-cons, sum_by-append, sum_by_push}
use Rattle.std.proofs.lemmas.Option.{same_Some, none-some, slice_get_within, slice_get-map}
use Rattle.core_state.specs.declared.answer.Name.{Name}
use Rattle.crossbeam_deque.specs.declared.handles.Worker.{Worker}
use Rattle.crossbeam_deque.specs.Handles.{worker_deque, worker_view, worker_flavor, worker_index, worker_capacity}
use Rattle.steal_pool.specs.declared.note.Note.{Note}
use Rattle.steal_pool.specs.declared.end.End.{End}
use Rattle.steal_pool.specs.declared.end.Row.{Row}
use Rattle.steal_pool.specs.Often.{EachAsOften}
use Rattle.steal_pool.specs.Pool.{DequeId, HandValue, PoolValue, AreAllHands, IsLeftInOrder}
use Rattle.steal_pool.specs.Rule.{note, HasAll, AreNext}
use Rattle.steal_pool.specs.inner.Ends.{deque_of, note_of, IsWired, IsPlaced, IsWell, ends_weight}
use Rattle.steal_pool.specs.inner.Building.{whole_of, IsApart, AreApart, IsJoined, AreJoined, IsDrained, AreDrained, Each}
use Rattle.steal_pool.proofs.Making.{map_from}
use Rattle.steal_pool.proofs.Lists.{got_set, got_snoc, got_behind, take_next, often_length, sum_flat}

abbrev Own : Type 0 → Type 0
Own P = Worker Name Global Note P

-- a deque while it is emptied
pub record IsDraining (first now : Note) (before after : List Name) : Type 0 where
  pub rest : List Name
  pub after_is : after ≡ before ++ rest
  pub noted : now ≡ note first.parts first.whole first.put (first.taken ++ rest)
  pub taken_is : take (length first.taken) first.put ++ rest ≡ take (length (first.taken ++ rest)) first.put

pub draining_begins : (v : Note) (before : List Name) → IsDraining v v before before
draining_begins v before = record {
  rest = [];
  after_is = sym (append-nil before);
  noted = ap (note v.parts v.whole v.put) (sym (append-nil v.taken));
  taken_is = append-nil (take (length v.taken) v.put) ∙ ap (λ (l : List Name). take (length l) v.put) (sym (append-nil v.taken));
}

next_taken : (v : Note) (x : Name) → AreNext v (x ∷ []) → slice_get v.put (length v.taken) ≡ Some x
next_taken v x next =
    ap (slice_get v.put) (sym (often_length next.0 v.taken next.3)) ∙ (ap (λ (l : List Name). slice_get l (length next.0)) next.2 ∙ got_behind next.0 next.1 x)

pub draining_more : (first now new : Note) (before after after' : List Name) (x : Name) → IsDraining first now before after → HasAll first → new ≡ note now.parts now.whole now.put (now.taken ++ x ∷ []) → (HasAll now → AreNext now (x ∷ []))
    → after' ≡ after ++ x ∷ [] → IsDraining first new before after'
draining_more first now new before after after' x d all is next more =
    let has : HasAll now = (omega (arith, all.0, ap (λ (v : Note). v.whole) d.noted), omega (arith, all.1, ap (λ (v : Note). v.parts) d.noted, ap (λ (v : Note). v.whole) d.noted)) in
    let at : slice_get first.put (length (first.taken ++ d.rest)) ≡ Some x = subst (λ (v : Note). slice_get v.put (length v.taken) ≡ Some x) d.noted (next_taken now x (next has)) in
    let longer : (first.taken ++ d.rest) ++ x ∷ [] ≡ first.taken ++ (d.rest ++ x ∷ []) = append_assoc first.taken d.rest (x ∷ []) in record {
      rest = d.rest ++ x ∷ [];
      after_is = more ∙ (ap (λ l. l ++ x ∷ []) d.after_is ∙ append_assoc before d.rest (x ∷ []));
      noted = is ∙ (ap (λ (v : Note). note v.parts v.whole v.put (v.taken ++ x ∷ [])) d.noted ∙ ap (note first.parts first.whole first.put) longer);
      taken_is = sym (append_assoc (take (length first.taken) first.put) d.rest (x ∷ []))
          ∙ (ap (λ l. l ++ x ∷ []) d.taken_is
          ∙ (sym (take_next first.put (length (first.taken ++ d.rest)) x at)
          ∙ ap (λ n. take n first.put) (sym (length_push (first.taken ++ d.rest) x) ∙ ap (λ (l : List Name). length l) longer)));
    }

pub draining_ends : (first now : Note) (before after : List Name) → IsDraining first now before after → HasAll first → (HasAll now → EachAsOften now.put now.taken) → IsDrained first before after
draining_ends first now before after d all none =
    let has : HasAll now = (omega (arith, all.0, ap (λ (v : Note). v.whole) d.noted), omega (arith, all.1, ap (λ (v : Note). v.parts) d.noted, ap (λ (v : Note). v.whole) d.noted)) in
    let often : EachAsOften first.put (first.taken ++ d.rest) = subst (λ (v : Note). EachAsOften v.put v.taken) d.noted (none has) in
    let as_long = often_length first.put (first.taken ++ d.rest) often in
    let gone : List Name = take (length first.taken) first.put in
    let put_is : first.put ≡ gone ++ d.rest = sym (d.taken_is ∙ take_all (length (first.taken ++ d.rest)) first.put (omega arith)) in (
      gone,
      d.rest,
      d.after_is,
      put_is,
      (λ weight.
          let a = often weight in let b = sum_by-append weight first.taken d.rest in let c = sum_by-append weight gone d.rest in let e : sum_by weight first.put ≡ sum_by weight (gone ++ d.rest) = ap (sum_by weight) put_is in omega arith),
    )

-- fewer names are left in the deque
pub draining_less : (now new : Note) (x : Name) → new ≡ note now.parts now.whole now.put (now.taken ++ x ∷ []) → AreNext now (x ∷ []) → length new.put - length new.taken < length now.put - length now.taken
draining_less now new x is next =
    let inside = slice_get_within now.put (length now.taken) x (next_taken now x next) in
    let a : length new.put ≡ length now.put = ap (λ (v : Note). length v.put) is in
    let b : length new.taken ≡ length now.taken + 1 = ap (λ (v : Note). length v.taken) is ∙ length_push now.taken x in
    omega arith

-- all hands, taken apart
pub apart_more : {P : Type 0} (hands : List HandValue) (owners : List (Own P)) (rows : List Row) (hand : HandValue) (own : Own P) (row : Row) → AreApart hands owners rows → IsApart hand own row.ends.items
    → AreApart (hands ++ hand ∷ []) (owners ++ own ∷ []) (rows ++ row ∷ [])
apart_more {P} hands owners rows hand own row all last = (
  omega (arith, all.0, length_push owners own, length_push hands hand),
  omega (arith, all.1, length_push rows row, length_push hands hand),
  each,
)
  where
    each : (k : ℕ) (h : HandValue) (o : Own P) (r : Row) → slice_get (hands ++ hand ∷ []) k ≡ Some h → slice_get (owners ++ own ∷ []) k ≡ Some o → slice_get (rows ++ row ∷ []) k ≡ Some r → IsApart h o r.ends.items
    each k h o r at_h at_o at_r = by_cases (got_snoc hands hand h k at_h) (got_snoc owners own o k at_o) (got_snoc rows row r k at_r)
      where
        by_cases : (slice_get hands k ≡ Some h) ⊎ ((k ≡ length hands) × (hand ≡ h)) → (slice_get owners k ≡ Some o) ⊎ ((k ≡ length owners) × (own ≡ o))
            → (slice_get rows k ≡ Some r) ⊎ ((k ≡ length rows) × (row ≡ r)) → IsApart h o r.ends.items
        by_cases (inl a) (inl b) (inl c) = all.2 k h o r a b c
        by_cases (inr a) (inr b) (inr c) = subst (λ (y : HandValue × Own P × Row). IsApart y.0 y.1 y.2.ends.items) (λ i. (a.1 i, b.1 i, c.1 i)) last
        by_cases (inl a) (inr b) _ = absurd (omega (arith, slice_get_within hands k h a, b.0, all.0))
        by_cases (inl a) (inl b) (inr c) = absurd (omega (arith, slice_get_within hands k h a, c.0, all.1))
        by_cases (inr a) (inl b) _ = absurd (omega (arith, a.0, slice_get_within owners k o b, all.0))
        by_cases (inr a) (inr b) (inl c) = absurd (omega (arith, a.0, slice_get_within rows k r c, all.1))

pub apart_with : {P : Type 0} (hands : List HandValue) (owners : List (Own P)) (rows : List Row) (owners' : List (Own P)) (rows' : List Row) (hand : HandValue) (own : Own P) (row : Row) → AreApart hands owners rows → IsApart hand own row.ends.items
    → owners' ≡ owners ++ own ∷ [] → rows' ≡ rows ++ row ∷ [] → AreApart (hands ++ hand ∷ []) owners' rows'
apart_with {P} hands owners rows owners' rows' hand own row all last is is' =
    subst (λ (y : List (Own P) × List Row). AreApart (hands ++ hand ∷ []) y.0 y.1) (λ i. (sym is i, sym is' i)) (apart_more hands owners rows hand own row all last)

-- one more owner took in its pass
pub joined_begins : {P : Type 0} (owners : List (Own P)) (ends : List End) (from : ℕ) → length owners ≤ from → AreJoined from owners ends owners
joined_begins owners ends from all = (refl, λ k own there. ((λ _. there), λ past. absurd (omega (arith, slice_get_within owners k own there))))

pub draining_has : (first now : Note) (before after : List Name) → IsDraining first now before after → HasAll first → HasAll now
draining_has first now before after d all =
    (omega (arith, all.0, ap (λ (v : Note). v.whole) d.noted), omega (arith, all.1, ap (λ (v : Note). v.parts) d.noted, ap (λ (v : Note). v.whole) d.noted))

-- the last of a list is taken off
pub pop_at : {A : Type 0} (all xs done ys : List A) (x : A) → all ≡ xs ++ done → xs ≡ ys ++ x ∷ [] → slice_get all (length ys) ≡ Some x
pop_at all xs done ys x is popped = ap (λ l. slice_get l (length ys)) (is ∙ (ap (λ l. l ++ done) popped ∙ append_assoc ys (x ∷ []) done)) ∙ got_behind ys done x

pub pop_done : {A : Type 0} (all xs done ys : List A) (x : A) → all ≡ xs ++ done → xs ≡ ys ++ x ∷ [] → all ≡ ys ++ (x ∷ done)
pop_done all xs done ys x is popped = is ∙ (ap (λ l. l ++ done) popped ∙ append_assoc ys (x ∷ []) done)

pub pop_length : {A : Type 0} (xs ys : List A) (x : A) → xs ≡ ys ++ x ∷ [] → length xs ≡ length ys + 1
pop_length xs ys x popped = ap (λ l. length l) popped ∙ length_push ys x

module _ {P : Type 0} (m : ℕ) (old : List (Own P)) (ends : List End) (now : List (Own P)) (own own' : Own P) (e : End) where
  abbrev Joined : ℕ → Own P → Type 0
  Joined k x =
      (k < m → slice_get old k ≡ Some x)
      × (m ≤ k → (before : Own P) × (e : End) × (slice_get old k ≡ Some before) × (slice_get ends k ≡ Some e) × IsJoined before e x)

  pub joined_more : AreJoined (m + 1) old ends now → slice_get now m ≡ Some own → slice_get ends m ≡ Some e → IsJoined own e own' → AreJoined m old ends (set now m own')
  joined_more all at at_e joined = (
    length-set now m own' ∙ all.0,
    (λ k x there. ⊎_elim
        (λ (t : (k ≡ m) × (own' ≡ x)).
        let here : Joined m own' = ((λ h. absurd (omega arith)), λ _. (own, e, (all.1 m own at).0 (omega arith), at_e, joined)) in
        subst (λ (y : ℕ × Own P). Joined y.0 y.1) (λ i. (sym t.0 i, t.1 i)) here)
        (λ (t : (k ≢ m) × (slice_get now k ≡ Some x)). let a = all.1 k x t.1 in let apart = t.0 in ((λ h. a.0 (omega arith)), λ h. a.1 (omega arith)))
        (got_set now m k own' x there)),
  )

-- what the names weigh that all owners, or all ends of some hands, have taken
abbrev pub owners_weight : {P : Type 0} → (Name → ℕ) → List (Own P) → ℕ
owners_weight {P} weight owners = sum_by (λ (own : Own P). sum_by weight (worker_view own).taken) owners

abbrev pub rows_weight : (Name → ℕ) → List Row → ℕ
rows_weight weight rows = sum_by (λ (row : Row). ends_weight weight row.ends.items) rows

there : {X : Type 0} (xs : List X) (k : ℕ) → k < length xs → (x : X) × (slice_get xs k ≡ Some x)
there [] k h = absurd (omega arith)
there (x ∷ xs) zero h = (x, refl)
there (x ∷ xs) (suc k) h = there xs k (omega arith)

joined_weight : {P : Type 0} (weight : Name → ℕ) (old : List (Own P)) (ends : List End) (new : List (Own P)) → length new ≡ length old → length ends ≡ length old
    → ((k : ℕ) (own : Own P) → slice_get new k ≡ Some own → (before : Own P) × (e : End) × (slice_get old k ≡ Some before) × (slice_get ends k ≡ Some e) × IsJoined before e own)
    → owners_weight weight new ≡ owners_weight weight old + ends_weight weight ends
joined_weight weight [] [] [] long long' each = refl
joined_weight weight [] [] (y ∷ ys) long long' each = absurd (omega arith)
joined_weight weight [] (e ∷ es) new long long' each = absurd (omega arith)
joined_weight weight (x ∷ xs) ends [] long long' each = absurd (omega arith)
joined_weight weight (x ∷ xs) [] (y ∷ ys) long long' each = absurd (omega arith)
joined_weight {P} weight (x ∷ xs) (e ∷ es) (y ∷ ys) long long' each =
    let j = each 0 y refl in
    let is_x : x ≡ j.0 = same_Some _ _ j.2 in let is_e : e ≡ j.1 = same_Some _ _ j.3 in
    let a : sum_by weight (worker_view y).taken ≡ sum_by weight (worker_view j.0).taken + sum_by weight (note_of j.1).taken =
    ap (λ (v : Note). sum_by weight v.taken) j.4.2 ∙ sum_by-append weight (worker_view j.0).taken (note_of j.1).taken in
    let b : sum_by weight (worker_view x).taken ≡ sum_by weight (worker_view j.0).taken = ap (λ (o : Own P). sum_by weight (worker_view o).taken) is_x in
    let d : sum_by weight (note_of e).taken ≡ sum_by weight (note_of j.1).taken = ap (λ (e : End). sum_by weight (note_of e).taken) is_e in
    let r = joined_weight weight xs es ys (omega arith) (omega arith) (λ k own at. each (suc k) own at) in
    let p = sum_by-cons (λ (own : Own P). sum_by weight (worker_view own).taken) y ys in
    let q = sum_by-cons (λ (own : Own P). sum_by weight (worker_view own).taken) x xs in
    let s = sum_by-cons (λ (e : End). sum_by weight (note_of e).taken) e es in
    omega arith

apart_weight : {P : Type 0} (weight : Name → ℕ) (hands : List HandValue) (owners : List (Own P)) (rows : List Row) → AreApart hands owners rows
    → owners_weight weight owners + rows_weight weight rows ≡ sum_by (λ (h : HandValue). sum_by weight h.taken) hands
apart_weight weight [] [] [] all = refl
apart_weight weight [] (o ∷ os) rows all = absurd (omega (arith, all.0))
apart_weight weight [] [] (r ∷ rs) all = absurd (omega (arith, all.1))
apart_weight weight (h ∷ hs) [] rows all = absurd (omega (arith, all.0))
apart_weight weight (h ∷ hs) (o ∷ os) [] all = absurd (omega (arith, all.1))
apart_weight {P} weight (h ∷ hs) (o ∷ os) (r ∷ rs) all =
    let w = (all.2 0 h o r refl refl refl).0.weighed weight in
    let rest = apart_weight weight hs os rs (omega (arith, all.0), omega (arith, all.1), (λ k h o r a b c. all.2 (suc k) h o r a b c)) in
    let p = sum_by-cons (λ (own : Own P). sum_by weight (worker_view own).taken) o os in
    let q = sum_by-cons (λ (row : Row). ends_weight weight row.ends.items) r rs in
    let s = sum_by-cons (λ (h : HandValue). sum_by weight h.taken) h hs in
    omega arith

-- the ends of each hand, by its number
abbrev pub RowsFit : List DequeId → List Row → Type 0
RowsFit deques rows = (number : ℕ) (row : Row) → slice_get rows number ≡ Some row → (map deque_of row.ends.items ≡ deques) × ((k : ℕ) (e : End) → slice_get row.ends.items k ≡ Some e → IsPlaced number k e)

-- what is known of an owner while `left` hands are still to be taken in
abbrev IsHalfway : {P : Type 0} → ℕ → ℕ → HandValue → ℕ → Own P → Type 0
IsHalfway hands left hand k own =
    (worker_flavor own ≡ 0) × (whole_of own ≡ hands) × ((worker_view own).put ≡ hand.put)
    × (left ≤ k → (worker_view own).parts + left ≡ hands) × (k < left → (worker_view own).parts + left ≡ hands + 1)

-- the owners while the hands are taken in, the last one first
pub record IsGathering {P : Type 0} (deques : List DequeId) (hands : List HandValue) (all rows : List Row) (owners : List (Own P)) : Type 0 where
  pub same : map worker_deque owners ≡ deques
  pub count : length hands ≡ length deques
  pub done : List Row
  pub all_is : all ≡ rows ++ done
  pub fit : RowsFit deques all
  pub each : (k : ℕ) (own : Own P) (hand : HandValue) → slice_get owners k ≡ Some own → slice_get hands k ≡ Some hand → IsHalfway (length hands) (length rows) hand k own
  pub weighed : (weight : Name → ℕ) → owners_weight weight owners + rows_weight weight rows ≡ sum_by (λ (h : HandValue). sum_by weight h.taken) hands

module _ {P : Type 0} (pool : PoolValue) (hands : List HandValue) (owners : List (Own P)) (rows : List Row) (are_all : AreAllHands pool hands) (apart : AreApart hands owners rows) where
  at_place : (k : ℕ) (own : Own P) → slice_get owners k ≡ Some own → slice_get pool.deques k ≡ Some (worker_deque own)
  at_place k own at =
      let inside = slice_get_within owners k own at in
      let h = there hands k (omega (arith, inside, apart.0)) in let r = there rows k (omega (arith, inside, apart.0, apart.1)) in
      let is = apart.2 k h.0 own r.0 h.1 at r.1 in let known = are_all.1 k h.0 h.1 in
      ap (λ l. slice_get l k) (sym known.0 ∙ sym is.1) ∙ (ap (λ n. slice_get (map deque_of r.0.ends.items) n) (sym known.1) ∙ is.0.at_home)

  rows_fit : RowsFit pool.deques rows
  rows_fit number row at =
      let inside = slice_get_within rows number row at in
      let h = there hands number (omega (arith, inside, apart.1)) in let o = there owners number (omega (arith, inside, apart.0, apart.1)) in
      let is = apart.2 number h.0 o.0 row h.1 o.1 at in let known = are_all.1 number h.0 h.1 in
      (is.1 ∙ known.0, λ k e there. subst (λ n. IsPlaced n k e) known.1 (is.0.placed k e there))

  pub gathering_begins : IsGathering pool.deques hands rows rows owners
  gathering_begins = record {
    same = map_from worker_deque owners pool.deques (omega (arith, apart.0, are_all.0)) at_place;
    count = are_all.0;
    done = [];
    all_is = sym (append-nil rows);
    fit = rows_fit;
    each = λ k own hand at at_h.
        let inside = slice_get_within hands k hand at_h in
        let r = there rows k (omega (arith, inside, apart.1)) in
        let is = apart.2 k hand own r.0 at_h at r.1 in let known = are_all.1 k hand at_h in
        let long : length r.0.ends.items ≡ length hands = omega (arith, ap (λ (l : List DequeId). length l) (is.1 ∙ known.0), length-map r.0.ends.items deque_of, are_all.0) in
        (is.0.owns.first_out, is.0.owns.whole ∙ long, is.2, (λ h. absurd (omega (arith, inside, apart.1, h))), λ h. omega (arith, is.0.owns.part, apart.1));
    weighed = λ weight. apart_weight weight hands owners rows apart;
  }

module _ {P : Type 0} (deques : List DequeId) (hands : List HandValue) (all rows rows' : List Row) (row : Row) (owners owners' : List (Own P)) (g : IsGathering deques hands all rows owners) (popped : rows ≡ rows' ++ row ∷ []) where
  pub row_at : slice_get all (length rows') ≡ Some row
  row_at = ap (λ l. slice_get l (length rows')) (g.all_is ∙ (ap (λ l. l ++ g.done) popped ∙ append_assoc rows' (row ∷ []) g.done)) ∙ got_behind rows' g.done row

  pub gathering_more : AreJoined 0 owners row.ends.items owners' → IsGathering deques hands all rows' owners'
  gathering_more joined =
      let long : length rows ≡ length rows' + 1 = ap (λ (l : List Row). length l) popped ∙ length_push rows' row in
      let fits = g.fit (length rows') row row_at in
      let as_many : length row.ends.items ≡ length owners =
      omega (arith, length-map row.ends.items deque_of, length-map owners worker_deque, ap (λ (l : List DequeId). length l) fits.0, ap (λ (l : List DequeId). length l) g.same) in
      record {
        same = map_from worker_deque owners' deques (omega (arith, joined.0, length-map owners worker_deque, ap (λ (l : List DequeId). length l) g.same))
            (λ k own at. let j = (joined.1 k own at).1 (omega arith) in ap (λ l. slice_get l k) (sym g.same) ∙ (slice_get-map worker_deque owners k ∙ (ap (option_map worker_deque) j.2 ∙ ap Some (sym j.4.0))));
        count = g.count;
        done = row ∷ g.done;
        all_is = g.all_is ∙ (ap (λ l. l ++ g.done) popped ∙ append_assoc rows' (row ∷ []) g.done);
        fit = g.fit;
        each = λ k own hand at at_h.
            let j = (joined.1 k own at).1 (omega arith) in
            let was = g.each k j.0 hand j.2 at_h in
            let placed = fits.1 k j.1 j.3 in
            let now : (worker_view own).parts ≡ (worker_view j.0).parts + (note_of j.1).parts = ap (λ (v : Note). v.parts) j.4.2 in (
              j.4.1 ∙ was.0,
              ap (λ (v : Note). v.whole) j.4.2 ∙ was.1,
              ap (λ (v : Note). v.put) j.4.2 ∙ was.2,
              (λ past. late k (worker_view j.0).parts (note_of j.1).parts (worker_view own).parts past long now was.3 was.4 (λ is. (placed.1 is).0) placed.2 (ℕ_discrete k (length rows'))),
              λ before. let one = placed.2 (λ is. omega arith) in let p = was.4 (omega arith) in omega arith,
            );
        weighed = λ weight.
            let a = g.weighed weight in
            let b = joined_weight weight owners row.ends.items owners' joined.0 as_many (λ k own at. (joined.1 k own at).1 (omega arith)) in
            let c : rows_weight weight rows ≡ rows_weight weight rows' + ends_weight weight row.ends.items = ap (rows_weight weight) popped ∙ sum_by_push (λ (row : Row). ends_weight weight row.ends.items) rows' row in
            omega arith;
      }
    where
      late : (k was part now : ℕ) → length rows' ≤ k → length rows ≡ length rows' + 1 → now ≡ was + part → (length rows ≤ k → was + length rows ≡ length hands) → (k < length rows → was + length rows ≡ length hands + 1)
          → (k ≡ length rows' → part ≡ 0) → (k ≢ length rows' → part ≡ 1) → Dec (k ≡ length rows') → now + length rows' ≡ length hands
      late k was part now past long is above below own other (yes here) = let p = below (omega arith) in let q = own here in omega arith
      late k was part now past long is above below own other (no apart) = let p = above (omega arith) in let q = other apart in omega arith

  pub row_wired : Each IsWired row.ends.items
  row_wired k e at = ((g.fit (length rows') row row_at).1 k e at).0

  pub row_deques : map deque_of row.ends.items ≡ map worker_deque owners
  row_deques = (g.fit (length rows') row row_at).0 ∙ sym g.same

  pub all_whole : Each (λ (own : Own P). 0 < whole_of own) owners
  all_whole k own at =
      let inside = slice_get_within owners k own at in
      let h = there hands k (omega (arith, inside, length-map owners worker_deque, ap (λ (l : List DequeId). length l) g.same, g.count)) in
      omega (arith, (g.each k own h.0 at h.1).1, slice_get_within hands k h.0 h.1)

-- at the end each owner has all parts
pub gathered_all : {P : Type 0} (deques : List DequeId) (hands : List HandValue) (all rows : List Row) (owners : List (Own P)) → IsGathering deques hands all rows owners → length rows ≡ 0
    → Each (λ (own : Own P). HasAll (worker_view own) × (worker_flavor own ≡ 0)) owners
gathered_all deques hands all rows owners g none k own at =
    let inside = slice_get_within owners k own at in
    let h = there hands k (omega (arith, inside, length-map owners worker_deque, ap (λ (l : List DequeId). length l) g.same, g.count)) in
    let is = g.each k own h.0 at h.1 in
    ((omega (arith, is.1, slice_get_within hands k h.0 h.1), omega (arith, is.1, is.3 (omega arith))), is.0)

drained_weight : {P : Type 0} (weight : Name → ℕ) (hands : List HandValue) (owners : List (Own P)) (left : List Name) → length owners ≡ length hands
    → ((k : ℕ) (own : Own P) (hand : HandValue) → slice_get owners k ≡ Some own → slice_get hands k ≡ Some hand → (worker_view own).put ≡ hand.put)
    → AreDrained owners left → sum_by (λ (h : HandValue). sum_by weight h.put) hands ≡ owners_weight weight owners + sum_by weight left
drained_weight weight [] [] left long puts drained = let none : sum_by weight left ≡ 0 = ap (sum_by weight) drained in omega arith
drained_weight weight [] (o ∷ os) left long puts drained = absurd (omega arith)
drained_weight weight (h ∷ hs) [] left long puts drained = absurd (omega arith)
drained_weight {P} weight (h ∷ hs) (o ∷ os) left long puts drained =
    let before : List Name = drained.0 in let d = drained.2 in
    let rest = drained_weight weight hs os before (omega arith) (λ k own hand a b. puts (suc k) own hand a b) drained.1 in
    let a : sum_by weight h.put ≡ sum_by weight d.0 + sum_by weight d.1 = ap (sum_by weight) (sym (puts 0 o h refl refl) ∙ d.3) ∙ sum_by-append weight d.0 d.1 in
    let b : sum_by weight left ≡ sum_by weight before + sum_by weight d.1 = ap (sum_by weight) d.2 ∙ sum_by-append weight before d.1 in
    let c = d.4 weight in
    let p = sum_by-cons (λ (own : Own P). sum_by weight (worker_view own).taken) o os in
    let q = sum_by-cons (λ (h : HandValue). sum_by weight h.put) h hs in
    omega arith

drained_order : {P : Type 0} (hands : List HandValue) (owners : List (Own P)) (left : List Name) → length owners ≡ length hands
    → ((k : ℕ) (own : Own P) (hand : HandValue) → slice_get owners k ≡ Some own → slice_get hands k ≡ Some hand → (worker_view own).put ≡ hand.put)
    → AreDrained owners left → IsLeftInOrder hands left
drained_order [] [] left long puts drained = drained
drained_order [] (o ∷ os) left long puts drained = absurd (omega arith)
drained_order (h ∷ hs) [] left long puts drained = absurd (omega arith)
drained_order (h ∷ hs) (o ∷ os) left long puts drained =
    let d = drained.2 in
    (drained.0, d.0, d.1, drained_order hs os drained.0 (omega arith) (λ k own hand a b. puts (suc k) own hand a b) drained.1, d.2, sym (puts 0 o h refl refl) ∙ d.3)

module _ {P : Type 0} (deques : List DequeId) (hands : List HandValue) (all rows : List Row) (owners : List (Own P)) (left : List Name) (g : IsGathering deques hands all rows owners) (none : length rows ≡ 0) (drained : AreDrained owners left) where
  as_many : length owners ≡ length hands
  as_many = omega (arith, length-map owners worker_deque, ap (λ (l : List DequeId). length l) g.same, g.count)

  puts : (k : ℕ) (own : Own P) (hand : HandValue) → slice_get owners k ≡ Some own → slice_get hands k ≡ Some hand → (worker_view own).put ≡ hand.put
  puts k own hand a b = (g.each k own hand a b).2

  no_rows : (weight : Name → ℕ) (rows : List Row) → length rows ≡ 0 → rows_weight weight rows ≡ 0
  no_rows weight [] none = refl
  no_rows weight (r ∷ rs) none = absurd (omega arith)

  pub as_often : EachAsOften (flat_map (λ (h : HandValue). h.put) hands) (flat_map (λ (h : HandValue). h.taken) hands ++ left)
  as_often weight =
      let a = drained_weight weight hands owners left as_many puts drained in
      let b = g.weighed weight in let c = no_rows weight rows none in
      let p = sum_flat weight (λ (h : HandValue). h.put) hands in let q = sum_flat weight (λ (h : HandValue). h.taken) hands in
      let s = sum_by-append weight (flat_map (λ (h : HandValue). h.taken) hands) left in
      omega arith

  pub in_order : IsLeftInOrder hands left
  in_order = drained_order hands owners left as_many puts drained
