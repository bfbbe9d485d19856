-- A hand stays well, and each of its tries is one.
use Rattle.std.proofs.Common.{◌≡◌, ◌≢◌, ℕ, zero, suc, ◌+◌, ◌^◌, ◌-◌, ◌<◌, ◌≤◌, ◌⊎◌, List, [], ◌∷◌, ◌++◌, Some, None, Option, map, min, length, set, sym, refl, ap, ◌∙◌, subst, inl, inr, ⊎_elim, length-set, arith}
use native.Mathlib.Decide.{ℕ_discrete, dec_le}
use Rattle.std.specs.List.{sum_by, slice_get, slice_index}
use Rattle.std.specs.declared.alloc.Global.{Global}
use Rattle.std.proofs.lemmas.List.Sums.{sum_by-cons, sum_by-append, sum_by_push}
use Rattle.std.proofs.lemmas.List.{length-map}
use Rattle.std.proofs.lemmas.Option.{same_Some, none-some, slice_get_within, slice_get_past}
use Rattle.core_state.specs.declared.answer.Name.{Name}
use Rattle.crossbeam_deque.specs.declared.handles.Worker.{Worker}
use Rattle.crossbeam_deque.specs.Handles.{worker_deque, worker_view, worker_index, SameWorker}
use Rattle.steal_pool.specs.declared.note.Note.{Note}
use Rattle.steal_pool.specs.declared.end.End.{End}
use Rattle.steal_pool.specs.declared.deques.Tried.{Tried}
use Rattle.steal_pool.specs.declared.deques.Tried.TheVariants as tried
use Rattle.steal_pool.specs.Often.{EachAsOften}
use Rattle.steal_pool.specs.Rose.{Rose, greatest_count}
use Rattle.steal_pool.specs.Tries.{MatchTried, Misses}
use Rattle.steal_pool.specs.Pool.{HandValue, IsOnly, IsSameHand}
use Rattle.steal_pool.specs.Taking.{TryOfHand, CountsTry, CountsLast, empties_at, beaten_at}
use Rattle.steal_pool.specs.Rule.{note, HasAll, AreNext}
use Rattle.steal_pool.specs.inner.Ends.{deque_of, note_of, IsWired, IsPlaced, OwnsPart, IsWell, ends_weight}
use Rattle.steal_pool.proofs.Lists.{got_set, map_same, map_set, sum_got, got_behind, often_length}

abbrev Own : Type 0 → Type 0
Own P = Worker Name Global Note P

-- what contracts see of a hand
abbrev pub shown : {P : Type 0} → ℕ → Own P → List End → List Name → HandValue
shown number own ends names = record {
  deques = map deque_of ends;
  number = number;
  put = (worker_view own).put;
  taken = names;
  empties = map (λ (e : End). e.empties) ends;
  beaten = map (λ (e : End). e.beaten) ends;
}

-- one end was tried, and the owner made a step
well_with : {P : Type 0} (number i : ℕ) (own own' : Own P) (ends : List End) (names names' : List Name) (e e' : End)
    → IsWell number own ends names → slice_get ends i ≡ Some e → OwnsPart (length ends) own' → worker_deque own' ≡ worker_deque own
    → deque_of e' ≡ deque_of e → IsPlaced number i e'
    → ((weight : Name → ℕ) → sum_by weight names' ≡ sum_by weight (worker_view own').taken + ends_weight weight (set ends i e'))
    → IsWell number own' (set ends i e') names'
well_with number i own own' ends names names' e e' well at owns same deque placed weighed = record {
  inside = subst (λ (n : ℕ). number < n) (sym (length-set ends i e')) well.inside;
  few = subst (λ (n : ℕ). n ≤ 64) (sym (length-set ends i e')) well.few;
  owns = subst (λ (n : ℕ). OwnsPart n own') (sym (length-set ends i e')) owns;
  at_home = ap (λ l. slice_get l number) (map_same deque_of ends i e e' at deque) ∙ well.at_home ∙ ap Some (sym same);
  placed = λ k x there. ⊎_elim (λ t. subst (λ (y : ℕ × End). IsPlaced number y.0 y.1) (λ j. (sym t.0 j, t.1 j)) placed) (λ t. well.placed k x t.1) (got_set ends i k e' x there);
  weighed = weighed;
}

owns_still : {P : Type 0} (hands : ℕ) (own own' : Own P) → OwnsPart hands own → SameWorker own own' → worker_index own' ≤ worker_index own
    → (worker_view own').parts ≡ (worker_view own).parts → (worker_view own').whole ≡ (worker_view own).whole → (worker_view own').put ≡ (worker_view own).put
    → OwnsPart hands own'
owns_still hands own own' owns same less parts whole put = record {
  first_out = same.1 ∙ owns.first_out;
  part = parts ∙ owns.part;
  whole = whole ∙ owns.whole;
  pushed = subst (λ (l : List Name). worker_index own' ≤ length l) (sym put) (omega (arith, less, owns.pushed));
  room = omega (arith, owns.room, same.3);
}

-- the only hand of a pool takes from its own deque alone
none_elsewhere : (weight : Name → ℕ) (number : ℕ) (ends : List End) → number < length ends → length ends ≡ 1 → ((k : ℕ) (e : End) → slice_get ends k ≡ Some e → IsPlaced number k e) → ends_weight weight ends ≡ 0
none_elsewhere weight number [] inside one placed = absurd (omega arith)
none_elsewhere weight number (e ∷ []) inside one placed =
    let first : 0 ≡ number = omega arith in
    sum_by-cons (λ (e : End). sum_by weight (note_of e).taken) e [] ∙ ap (λ l. sum_by weight l + 0) ((placed 0 e refl).1 first).1
none_elsewhere weight number (e ∷ f ∷ rest) inside one placed = absurd (omega arith)

pub only_taken : {P : Type 0} (number : ℕ) (own : Own P) (ends : List End) (names : List Name) → IsWell number own ends names → length (map deque_of ends) ≡ 1 → EachAsOften names (worker_view own).taken
only_taken number own ends names well one weight =
    let w = well.weighed weight in let z = none_elsewhere weight number ends well.inside (sym (length-map ends deque_of) ∙ one) well.placed in omega arith

only_has_all : {P : Type 0} (number : ℕ) (own : Own P) (ends : List End) (names : List Name) → IsWell number own ends names → length (map deque_of ends) ≡ 1 → HasAll (worker_view own)
only_has_all number own ends names well one =
    let n : length ends ≡ 1 = sym (length-map ends deque_of) ∙ one in
    (omega (arith, well.owns.whole), omega (arith, well.owns.whole, well.owns.part))

-- a name of its own deque
pub own_got : {P : Type 0} (number : ℕ) (own own' : Own P) (ends : List End) (names names' : List Name) (x : Name)
    → IsWell number own ends names → names' ≡ names ++ x ∷ []
    → worker_view own' ≡ note (worker_view own).parts (worker_view own).whole (worker_view own).put ((worker_view own).taken ++ x ∷ [])
    → (HasAll (worker_view own) → AreNext (worker_view own) (x ∷ []))
    → TryOfHand (shown number own ends names) number (tried.Got x) (shown number own' ends names')
own_got number own own' ends names names' x well more is next = ((refl, refl), ap (λ (v : Note). v.put) is, (more, first))
  where
    first : length (map deque_of ends) ≡ 1 → slice_get (worker_view own).put (length names) ≡ Some x
    first one =
        let n = next (only_has_all number own ends names well one) in
        let as_long : length names ≡ length n.0 =
        often_length names (worker_view own).taken (only_taken number own ends names well one) ∙ sym (often_length n.0 (worker_view own).taken n.3) in
        ap (λ k. slice_get (worker_view own).put k) as_long ∙ ap (λ l. slice_get l (length n.0)) n.2 ∙ got_behind n.0 n.1 x

pub own_got_well : {P : Type 0} (number : ℕ) (own own' : Own P) (ends : List End) (names names' : List Name) (x : Name)
    → IsWell number own ends names → names' ≡ names ++ x ∷ [] → SameWorker own own' → worker_index own' ≤ worker_index own
    → worker_view own' ≡ note (worker_view own).parts (worker_view own).whole (worker_view own).put ((worker_view own).taken ++ x ∷ [])
    → IsWell number own' ends names'
own_got_well number own own' ends names names' x well more same less is = record {
  inside = well.inside;
  few = well.few;
  owns = owns_still (length ends) own own' well.owns same less (ap (λ (v : Note). v.parts) is) (ap (λ (v : Note). v.whole) is) (ap (λ (v : Note). v.put) is);
  at_home = well.at_home ∙ ap Some (sym same.0);
  placed = well.placed;
  weighed = λ weight.
      let w = well.weighed weight in
      let a : sum_by weight names' ≡ sum_by weight names + weight x = ap (sum_by weight) more ∙ sum_by_push weight names x in
      let b : sum_by weight (worker_view own').taken ≡ sum_by weight (worker_view own).taken + weight x = ap (λ (v : Note). sum_by weight v.taken) is ∙ sum_by_push weight (worker_view own).taken x in
      omega arith;
}

-- no name in its own deque
pub own_empty : {P : Type 0} (number : ℕ) (own own' : Own P) (ends : List End) (names : List Name) (e e' : End)
    → IsWell number own ends names → slice_get ends number ≡ Some e → deque_of e' ≡ deque_of e
    → worker_view own' ≡ worker_view own → (HasAll (worker_view own) → EachAsOften (worker_view own).put (worker_view own).taken)
    → TryOfHand (shown number own ends names) number tried.Empty (shown number own' (set ends number e') names)
own_empty number own own' ends names e e' well at deque is none = ((map_same deque_of ends number e e' at deque, refl), ap (λ (v : Note). v.put) is, (refl, all))
  where
    all : length (map deque_of ends) ≡ 1 → length names ≡ length (worker_view own).put
    all one =
        often_length names (worker_view own).taken (only_taken number own ends names well one)
        ∙ sym (often_length (worker_view own).put (worker_view own).taken (none (only_has_all number own ends names well one)))

pub own_empty_well : {P : Type 0} (number : ℕ) (own own' : Own P) (ends : List End) (names : List Name) (e e' : End) (n : ℕ)
    → IsWell number own ends names → slice_get ends number ≡ Some e → SameWorker own own' → worker_index own' ≤ worker_index own → worker_view own' ≡ worker_view own
    → e' ≡ record e { empties = n }
    → IsWell number own' (set ends number e') names
own_empty_well number own own' ends names e e' n well at same less is counted =
    well_with number number own own' ends names names e e' well at
    (owns_still (length ends) own own' well.owns same less (ap (λ (v : Note). v.parts) is) (ap (λ (v : Note). v.whole) is) (ap (λ (v : Note). v.put) is))
    same.0 (ap deque_of counted) (subst (IsPlaced number number) (sym counted) (well.placed number e at))
    (λ weight.
    let w = well.weighed weight in
    let s = sum_got (λ (e : End). sum_by weight (note_of e).taken) ends number e e' at in
    let t : sum_by weight (note_of e').taken ≡ sum_by weight (note_of e).taken = ap (λ (e : End). sum_by weight (note_of e).taken) counted in
    let o : sum_by weight (worker_view own').taken ≡ sum_by weight (worker_view own).taken = ap (λ (v : Note). sum_by weight v.taken) is in
    omega arith)

-- a try at another's deque
module _ {P : Type 0} (number i : ℕ) (own : Own P) (ends : List End) (names names' : List Name) (e e' : End) (well : IsWell number own ends names) (at : slice_get ends i ≡ Some e) (other : i ≢ number) (deque : deque_of e' ≡ deque_of e) where
  abbrev Takes : Tried → Type 0
  Takes t = MatchTried t (λ name. (note_of e').taken ≡ (note_of e).taken ++ name ∷ []) ((note_of e').taken ≡ (note_of e).taken) ((note_of e').taken ≡ (note_of e).taken)

  abbrev Notes : Tried → Type 0
  Notes t = MatchTried t (λ name. names' ≡ names ++ name ∷ []) (names' ≡ names) (names' ≡ names)

  weighed_still : (t : Tried) → Takes t → Notes t → (weight : Name → ℕ) → sum_by weight names' ≡ sum_by weight (worker_view own).taken + ends_weight weight (set ends i e')
  weighed_still (tried.Got name) takes notes weight =
      let w = well.weighed weight in let s = sum_got (λ (e : End). sum_by weight (note_of e).taken) ends i e e' at in
      let a : sum_by weight (note_of e').taken ≡ sum_by weight (note_of e).taken + weight name = ap (sum_by weight) takes ∙ sum_by_push weight (note_of e).taken name in
      let b : sum_by weight names' ≡ sum_by weight names + weight name = ap (sum_by weight) notes ∙ sum_by_push weight names name in
      omega arith
  weighed_still tried.Beaten takes notes weight =
      let w = well.weighed weight in let s = sum_got (λ (e : End). sum_by weight (note_of e).taken) ends i e e' at in
      let a : sum_by weight (note_of e').taken ≡ sum_by weight (note_of e).taken = ap (sum_by weight) takes in
      let b : sum_by weight names' ≡ sum_by weight names = ap (sum_by weight) notes in
      omega arith
  weighed_still tried.Empty takes notes weight =
      let w = well.weighed weight in let s = sum_got (λ (e : End). sum_by weight (note_of e).taken) ends i e e' at in
      let a : sum_by weight (note_of e').taken ≡ sum_by weight (note_of e).taken = ap (sum_by weight) takes in
      let b : sum_by weight names' ≡ sum_by weight names = ap (sum_by weight) notes in
      omega arith

  pub other_well : IsWired e' → (note_of e').parts ≡ (note_of e).parts → (t : Tried) → Takes t → Notes t → IsWell number own (set ends i e') names'
  other_well wired part t takes notes =
      well_with number i own own ends names names' e e' well at well.owns refl deque
      (wired, (λ mine. absurd (other mine)), λ apart. part ∙ (well.placed i e at).2 apart) (weighed_still t takes notes)

  not_only : length (map deque_of ends) ≡ 1 → ⊥
  not_only one =
      let n : length ends ≡ 1 = sym (length-map ends deque_of) ∙ one in let inside = well.inside in let there = slice_get_within ends i e at in
      other (omega arith)

  pub other_made : (t : Tried) → Notes t → TryOfHand (shown number own ends names) i t (shown number own (set ends i e') names')
  other_made (tried.Got name) notes = ((map_same deque_of ends i e e' at deque, refl), refl, (notes, λ one. absurd (not_only one)))
  other_made tried.Beaten notes = ((map_same deque_of ends i e e' at deque, refl), refl, notes)
  other_made tried.Empty notes = ((map_same deque_of ends i e e' at deque, refl), refl, (notes, λ one. absurd (not_only one)))

-- the counts of an end that was tried
index_last : (xs : List ℕ) (i v : ℕ) → slice_index xs i ≤ v → i < length xs → (j : ℕ) → slice_index xs j ≤ slice_index (set xs i v) j
index_last [] i v le inside j = absurd (omega arith)
index_last (x ∷ xs) zero v le inside zero = le
index_last (x ∷ xs) zero v le inside (suc j) = omega arith
index_last (x ∷ xs) (suc i) v le inside zero = omega arith
index_last (x ∷ xs) (suc i) v le inside (suc j) = index_last xs i v le (omega arith) j

index_at : (f : End → ℕ) (ends : List End) (i : ℕ) (e : End) → slice_get ends i ≡ Some e → slice_index (map f ends) i ≡ f e
index_at f [] i e at = absurd (none-some _ at)
index_at f (x ∷ xs) zero e at = ap f (same_Some _ _ at)
index_at f (x ∷ xs) (suc i) e at = index_at f xs i e at

index_here : (xs : List ℕ) (i v : ℕ) → i < length xs → slice_index (set xs i v) i ≡ v
index_here [] i v inside = absurd (omega arith)
index_here (x ∷ xs) zero v inside = refl
index_here (x ∷ xs) (suc i) v inside = index_here xs i v (omega arith)

count_last : (f : End → ℕ) (ends : List End) (i : ℕ) (e e' : End) → slice_get ends i ≡ Some e → f e ≤ f e' → (j : ℕ) → slice_index (map f ends) j ≤ slice_index (map f (set ends i e')) j
count_last f ends i e e' at le j =
    subst (λ (l : List ℕ). slice_index (map f ends) j ≤ slice_index l j) (sym (map_set f ends i e'))
    (index_last (map f ends) i (f e') (subst (λ (n : ℕ). n ≤ f e') (sym (index_at f ends i e at)) le) (subst (λ (n : ℕ). i < n) (sym (length-map ends f)) (slice_get_within ends i e at)) j)

count_rose : (f : End → ℕ) (ends : List End) (i : ℕ) (e e' : End) → slice_get ends i ≡ Some e → Rose (f e) (f e') → Rose (slice_index (map f ends) i) (slice_index (map f (set ends i e')) i)
count_rose f ends i e e' at rose =
    let inside : i < length (map f ends) = subst (λ (n : ℕ). i < n) (sym (length-map ends f)) (slice_get_within ends i e at) in
    let here : slice_index (map f (set ends i e')) i ≡ f e' = ap (λ (l : List ℕ). slice_index l i) (map_set f ends i e') ∙ index_here (map f ends) i (f e') inside in
    subst (λ (n : ℕ). Rose n (slice_index (map f (set ends i e')) i)) (sym (index_at f ends i e at)) (subst (λ (n : ℕ). Rose (f e) n) (sym here) rose)

pub try_counts : {P : Type 0} (number i : ℕ) (own own' : Own P) (ends : List End) (names names' : List Name) (e e' : End) → slice_get ends i ≡ Some e
    → e.empties ≤ e'.empties → e.beaten ≤ e'.beaten → (t : Tried) → MatchTried t (λ _. Unit {0}) (Rose e.beaten e'.beaten) (Rose e.empties e'.empties)
    → CountsTry (shown number own ends names) i t (shown number own' (set ends i e') names')
try_counts number i own own' ends names names' e e' at empties beaten t cause =
    ((λ j. (count_last (λ (e : End). e.empties) ends i e e' at empties j, count_last (λ (e : End). e.beaten) ends i e e' at beaten j)), causes t cause)
  where
    causes : (t : Tried) → MatchTried t (λ _. Unit {0}) (Rose e.beaten e'.beaten) (Rose e.empties e'.empties)
        → MatchTried t (λ _. Unit {0}) (Rose (beaten_at (shown number own ends names) i) (beaten_at (shown number own' (set ends i e') names') i)) (Rose (empties_at (shown number own ends names) i) (empties_at (shown number own' (set ends i e') names') i))
    causes (tried.Got name) c = tt
    causes tried.Beaten c = count_rose (λ (e : End). e.beaten) ends i e e' at c
    causes tried.Empty c = count_rose (λ (e : End). e.empties) ends i e e' at c

pub no_counts : (old new : HandValue) → new.empties ≡ old.empties → new.beaten ≡ old.beaten → CountsLast old new
no_counts old new empties beaten i =
    (subst (λ (l : List ℕ). slice_index old.empties i ≤ slice_index l i) (sym empties) (omega arith), subst (λ (l : List ℕ). slice_index old.beaten i ≤ slice_index l i) (sym beaten) (omega arith))
