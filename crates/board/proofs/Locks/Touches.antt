-- A step on one slot by one seat keeps the rule, if it does so of that slot.
use Rattle.std.proofs.Common.{◌≡◌, ◌≢◌, ⊎_elim, ℕ, zero, suc, ◌+◌, ◌*◌, ◌<◌, ◌≤◌, List, [], ◌∷◌, ◌++◌, length, set, map, Option, Some, None, refl, sym, ap, ◌∙◌, subst, arith, length-set}
use Rattle.std.specs.Prelude.{slice_index, slice_set}
use Rattle.std.proofs.lemmas.List.{get_or-set_same, get_or-set_other}
use Rattle.std.proofs.lemmas.Bool.{cases_eq}
use mathlib.Core.Option as maybe
use mathlib.Core.Option.{some, some-injective, some-ne-none}
use lib.ListN.{get_elem?}
use Rattle.atomic_table.specs.Table.{State}
use Rattle.atomic_table.proofs.Lists.{at_set, set_else, at_snoc, at_longer}
use Rattle.board.specs.Locks.Share.{IsSpent, AddUpToOne}
use Rattle.board.specs.Locks.TurnView.{TurnView as View}
use Rattle.board.specs.Locks.Words.{turn_word}
use Rattle.board.specs.Locks.Rule.{IsKept, HasTurn, IsFree, HasOneHolder}
use Rattle.board.proofs.Locks.Marks.{mark}

pub set_there : {A : Type 0} → (l : List A) (i : ℕ) (a b : A) → get_elem? l i ≡ some a → get_elem? (set l i b) i ≡ some b
set_there [] i a b e = absurd (some-ne-none a (sym e))
set_there (x ∷ xs) zero a b e = refl
set_there (x ∷ xs) (suc i) a b e = set_there xs i a b e

-- what holds of each view after a change of one
pub each_view : (P : ℕ → View → Type 0) (views : List View) (id : ℕ) (w : View) → P id w → ((k : ℕ) (u : View) → get_elem? views k ≡ some u → k ≢ id → P k u)
    → (k : ℕ) (u : View) → get_elem? (set views id w) k ≡ some u → P k u
each_view P views id w mine others k u e =
    ⊎_elim
    (λ (x : (k ≡ id) × (w ≡ u)). subst (λ (y : ℕ × View). P y.0 y.1) (λ i. (sym x.0 i, x.1 i)) mine)
    (λ (x : (k ≢ id) × (get_elem? views k ≡ some u)). others k u x.1 x.0)
    (at_set views id k w u e)

-- the rule, but for the sum of shares
pub record IsSound {V : Type 0} (fits : ℕ → V → Type 0) (slots : ℕ) (s : State (Option V) View) : Type 0 where
  pub words : length s.words ≡ 8 * slots + 1
  pub value : (i : ℕ) → i < slots → slice_index s.words (turn_word i) ≡ 0 → (v : V) × (get_elem? s.homes i ≡ some (some (Some v))) × fits i v
  pub free : (i : ℕ) → i < slots → slice_index s.words (turn_word i) ≡ 0 → IsFree s.views i
  pub taken : (i : ℕ) → i < slots → slice_index s.words (turn_word i) ≢ 0 → HasOneHolder s.views i
  pub empty : (i id : ℕ) (v : View) → i < slots → get_elem? s.views id ≡ some v → HasTurn v i → v.out ≢ Some i → get_elem? s.homes i ≡ some (some None)
  pub spent : (i id : ℕ) (v : View) → get_elem? s.views id ≡ some v → IsSpent v.share → ¬ HasTurn v i

pub sound_of : {V : Type 0} (fits : ℕ → V → Type 0) (slots : ℕ) (s : State (Option V) View) → IsKept fits slots s → IsSound fits slots s
sound_of fits slots s kept = record { words = kept.words; value = kept.value; free = kept.free; taken = kept.taken; empty = kept.empty; spent = kept.spent }

pub kept_of : {V : Type 0} (fits : ℕ → V → Type 0) (slots : ℕ) (s : State (Option V) View) → IsSound fits slots s → AddUpToOne (map (λ v. v.share) s.views) → IsKept fits slots s
kept_of fits slots s sound sum = record { words = sound.words; value = sound.value; free = sound.free; taken = sound.taken; empty = sound.empty; shares = sum; spent = sound.spent }

module _ {V : Type 0} (fits : ℕ → V → Type 0) (slots : ℕ) (s : State (Option V) View) (kept : IsSound fits slots s) (id : ℕ) (v : View) (at : get_elem? s.views id ≡ some v) where
  -- the turn of a slot that a seat holds stands taken
  pub stands : (i : ℕ) → i < slots → HasTurn v i → slice_index s.words (turn_word i) ≢ 0
  stands i below has e = kept.free i below e id v at has

  -- and no other seat holds the slot
  pub alone : (i : ℕ) → i < slots → HasTurn v i → (other : ℕ) (u : View) → get_elem? s.views other ≡ some u → other ≢ id → ¬ HasTurn u i
  alone i below mine other u there apart has =
      let one = kept.taken i below (stands i below mine) in
      ⊎_elim
      (λ (e : id ≡ one.id). one.alone other u there (λ f. apart (f ∙ sym e)) has)
      (λ (n : id ≢ one.id). one.alone id v at n mine)
      (cases_eq id one.id)

  -- what a step on slot i does to it. It is on no slot where i is past the last one
  pub record Touch (i m : ℕ) (after : List (maybe.Option (Option V))) (w : View) : Type 0 where
    pub others : i < slots → (other : ℕ) (u : View) → get_elem? s.views other ≡ some u → other ≢ id → ¬ HasTurn u i
    pub marks : (j : ℕ) → j ≢ i → mark w j ≡ mark v j
    pub spent : IsSpent w.share → (j : ℕ) → ¬ HasTurn w j
    pub outs : (j : ℕ) → j ≢ i → w.out ≢ Some j → v.out ≢ Some j
    pub homes : (j : ℕ) → j ≢ i → get_elem? after j ≡ get_elem? s.homes j
    pub free : i < slots → m ≡ 0 → ((x : V) × (get_elem? after i ≡ some (some (Some x))) × fits i x) × ¬ HasTurn w i
    pub taken : i < slots → m ≢ 0 → HasTurn w i
    pub empty : i < slots → HasTurn w i → w.out ≢ Some i → get_elem? after i ≡ some (some None)

  module _ (i m : ℕ) (after : List (maybe.Option (Option V))) (w : View) (t : Touch i m after w) where
    word_here : i < slots → slice_index (slice_set s.words (turn_word i) m) (turn_word i) ≡ m
    word_here inside = get_or-set_same s.words (turn_word i) m 0 (omega (arith, kept.words, inside))

    inside : (j : ℕ) → j < slots → j ≡ i → i < slots
    inside j below e = subst (λ (k : ℕ). k < slots) e below

    word_else : (j : ℕ) → j ≢ i → slice_index (slice_set s.words (turn_word i) m) (turn_word j) ≡ slice_index s.words (turn_word j)
    word_else j n = get_or-set_other s.words (turn_word i) (turn_word j) m 0 (λ e. n (omega (arith, e)))

    -- what was written to the word of i
    written : (j : ℕ) → j < slots → j ≡ i → m ≡ slice_index (slice_set s.words (turn_word i) m) (turn_word j)
    written j below e = sym (word_here (inside j below e)) ∙ ap (λ (k : ℕ). slice_index (slice_set s.words (turn_word i) m) (turn_word k)) (sym e)

    value_after : (j : ℕ) → j < slots → slice_index (slice_set s.words (turn_word i) m) (turn_word j) ≡ 0 → (x : V) × (get_elem? after j ≡ some (some (Some x))) × fits j x
    value_after j below zero_now =
        ⊎_elim
        (λ (e : j ≡ i). subst (λ (k : ℕ). (x : V) × (get_elem? after k ≡ some (some (Some x))) × fits k x) (sym e)
        (t.free (inside j below e) (written j below e ∙ zero_now)).0)
        (λ (n : j ≢ i). let old = kept.value j below (sym (word_else j n) ∙ zero_now) in (old.0, t.homes j n ∙ old.1, old.2))
        (cases_eq j i)

    free_after : (j : ℕ) → j < slots → slice_index (slice_set s.words (turn_word i) m) (turn_word j) ≡ 0 → IsFree (slice_set s.views id w) j
    free_after j below zero_now =
        ⊎_elim
        (λ (e : j ≡ i). let none = (t.free (inside j below e) (written j below e ∙ zero_now)).1 in
        each_view (λ k u. ¬ HasTurn u j) s.views id w (λ has. none (ap (mark w) (sym e) ∙ has))
        (λ k u there apart has. t.others (inside j below e) k u there apart (ap (mark u) (sym e) ∙ has)))
        (λ (n : j ≢ i). let old = kept.free j below (sym (word_else j n) ∙ zero_now) in
        each_view (λ k u. ¬ HasTurn u j) s.views id w (λ has. old id v at (sym (t.marks j n) ∙ has))
        (λ k u there apart has. old k u there has))
        (cases_eq j i)

    holder_here : (j : ℕ) → j < slots → j ≡ i → m ≢ 0 → HasOneHolder (slice_set s.views id w) j
    holder_here j below e set_now = record {
      id = id;
      view = w;
      there = set_there s.views id v w at;
      holds = ap (mark w) e ∙ t.taken (inside j below e) set_now;
      alone = each_view (λ k u. k ≢ id → ¬ HasTurn u j) s.views id w (λ n has. n refl) (λ k u there apart n has. t.others (inside j below e) k u there apart (ap (mark u) (sym e) ∙ has));
    }

    holder_else : (j : ℕ) → j ≢ i → HasOneHolder s.views j → HasOneHolder (slice_set s.views id w) j
    holder_else j n one =
        ⊎_elim
        (λ (e : one.id ≡ id).
        let same : one.view ≡ v = some-injective one.view v (sym one.there ∙ (ap (get_elem? s.views) e ∙ at)) in
        record {
          id = id;
          view = w;
          there = set_there s.views id v w at;
          holds = t.marks j n ∙ (ap (λ (u : View). mark u j) (sym same) ∙ one.holds);
          alone = each_view (λ k u. k ≢ id → ¬ HasTurn u j) s.views id w (λ x has. x refl)
              (λ k u there apart x has. one.alone k u there (λ f. apart (f ∙ e)) has);
        })
        (λ (x : one.id ≢ id). record {
          id = one.id;
          view = one.view;
          there = set_else s.views id one.id w x ∙ one.there;
          holds = one.holds;
          alone = each_view (λ k u. k ≢ one.id → ¬ HasTurn u j) s.views id w
              (λ y has. one.alone id v at y (sym (t.marks j n) ∙ has))
              (λ k u there apart y has. one.alone k u there y has);
        })
        (cases_eq one.id id)

    taken_after : (j : ℕ) → j < slots → slice_index (slice_set s.words (turn_word i) m) (turn_word j) ≢ 0 → HasOneHolder (slice_set s.views id w) j
    taken_after j below set_now =
        ⊎_elim
        (λ (e : j ≡ i). holder_here j below e (λ z. set_now (sym (written j below e) ∙ z)))
        (λ (n : j ≢ i). holder_else j n (kept.taken j below (λ z. set_now (word_else j n ∙ z))))
        (cases_eq j i)

    empty_after : (j k : ℕ) (u : View) → j < slots → get_elem? (slice_set s.views id w) k ≡ some u → HasTurn u j → u.out ≢ Some j → get_elem? after j ≡ some (some None)
    empty_after j k u below there =
        ⊎_elim
        (λ (e : j ≡ i).
        each_view (λ k u. HasTurn u j → u.out ≢ Some j → get_elem? after j ≡ some (some None)) s.views id w
        (λ has in_place. ap (get_elem? after) e ∙ t.empty (inside j below e) (ap (mark w) (sym e) ∙ has) (λ f. in_place (f ∙ ap (λ (x : ℕ). Some x) (sym e))))
        (λ k u there apart has in_place. absurd (t.others (inside j below e) k u there apart (ap (mark u) (sym e) ∙ has)))
        k u there)
        (λ (n : j ≢ i).
        each_view (λ k u. HasTurn u j → u.out ≢ Some j → get_elem? after j ≡ some (some None)) s.views id w
        (λ has in_place. t.homes j n ∙ kept.empty j id v below at (sym (t.marks j n) ∙ has) (t.outs j n in_place))
        (λ k u there apart has in_place. t.homes j n ∙ kept.empty j k u below there has in_place)
        k u there)
        (cases_eq j i)

    spent_after : (j k : ℕ) (u : View) → get_elem? (slice_set s.views id w) k ≡ some u → IsSpent u.share → ¬ HasTurn u j
    spent_after j =
        each_view (λ k u. IsSpent u.share → ¬ HasTurn u j) s.views id w
        (λ none. t.spent none j)
        (λ k u there apart. kept.spent j k u there)

    pub touched : IsSound fits slots record { words = slice_set s.words (turn_word i) m; homes = after; views = slice_set s.views id w }
    touched = record {
      words = length-set s.words (turn_word i) m ∙ kept.words;
      value = value_after;
      free = free_after;
      taken = taken_after;
      empty = empty_after;
      spent = spent_after;
    }

  set_past : (l : List ℕ) (k x : ℕ) → length l ≤ k → slice_set l k x ≡ l
  set_past [] k x le = refl
  set_past (y ∷ l) zero x le = absurd (omega (arith, le))
  set_past (y ∷ l) (suc k) x le = ap (λ (ns : List ℕ). y ∷ ns) (set_past l k x (omega (arith, le)))

  -- a step that changes only what a seat knows beside its slots
  pub noted : (w : View) → ((j : ℕ) → mark w j ≡ mark v j) → w.out ≡ v.out → (IsSpent w.share → (j : ℕ) → ¬ HasTurn w j) → IsSound fits slots record { words = s.words; homes = s.homes; views = slice_set s.views id w }
  noted w marks out spent =
      subst (λ (ws : List ℕ). IsSound fits slots record { words = ws; homes = s.homes; views = slice_set s.views id w })
      (set_past s.words (turn_word slots) 0 (omega (arith, kept.words)))
      (touched slots 0 s.homes w record {
        others = λ inside. absurd (omega (arith, inside));
        marks = λ j n. marks j;
        spent = spent;
        outs = λ j n x e. x (out ∙ e);
        homes = λ j n. refl;
        free = λ inside. absurd (omega (arith, inside));
        taken = λ inside. absurd (omega (arith, inside));
        empty = λ inside. absurd (omega (arith, inside));
      })

-- a new seat that holds nothing
module _ {V : Type 0} (fits : ℕ → V → Type 0) (slots : ℕ) (s : State (Option V) View) (kept : IsSound fits slots s) (new : View) (none : (j : ℕ) → ¬ HasTurn new j) where
  each_seat : (P : View → Type 0) → P new → ((k : ℕ) (u : View) → get_elem? s.views k ≡ some u → P u) → (k : ℕ) (u : View) → get_elem? (s.views ++ new ∷ []) k ≡ some u → P u
  each_seat P mine others k u e =
      ⊎_elim (λ (x : get_elem? s.views k ≡ some u). others k u x) (λ (x : new ≡ u). subst P x mine) (at_snoc s.views new u k e)

  holder_stays : (j : ℕ) → HasOneHolder s.views j → HasOneHolder (s.views ++ new ∷ []) j
  holder_stays j one = record {
    id = one.id;
    view = one.view;
    there = at_longer s.views (new ∷ []) one.id one.view one.there;
    holds = one.holds;
    alone = λ k u e apart has.
        ⊎_elim (λ (x : get_elem? s.views k ≡ some u). one.alone k u x apart has) (λ (x : new ≡ u). none j (ap (λ (y : View). mark y j) x ∙ has)) (at_snoc s.views new u k e);
  }

  pub seated : IsSound fits slots record { words = s.words; homes = s.homes; views = s.views ++ new ∷ [] }
  seated = record {
    words = kept.words;
    value = kept.value;
    free = λ j below zero_now. each_seat (λ u. ¬ HasTurn u j) (none j) (kept.free j below zero_now);
    taken = λ j below set_now. holder_stays j (kept.taken j below set_now);
    empty = λ j k u below there has.
        each_seat (λ u. HasTurn u j → u.out ≢ Some j → get_elem? s.homes j ≡ some (some None)) (λ mine. absurd (none j mine)) (λ i v at. kept.empty j i v below at) k u there has;
    spent = λ j. each_seat (λ u. IsSpent u.share → ¬ HasTurn u j) (λ _. none j) (kept.spent j);
  }
