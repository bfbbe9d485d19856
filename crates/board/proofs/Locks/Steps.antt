-- Each step on the slots keeps their rule, and tells what it is said to tell.
use Rattle.std.proofs.Common.{◌≡◌, ◌≢◌, ⊎_elim, ℕ, ◌<◌, Bool, true, false, true≢false, eqb, eq-eqb, ne_eqb, List, [], ◌∷◌, length, get_or, map, Option, Some, None, refl, sym, ap, ◌∙◌, subst, arith}
use Rattle.std.specs.Prelude.{slice_index, slice_set, MatchBool}
use Rattle.std.proofs.lemmas.List.{set-get_or}
use Rattle.std.proofs.lemmas.Bool.{cases_eq}
use Rattle.std.proofs.lemmas.Option.{none-some}
use prog.Atomic.{either}
use mathlib.Core.Option as maybe
use mathlib.Core.Option.{some, none, some-injective, some-ne-none}
use lib.ListN.{get_elem?}
use Rattle.atomic_table.specs.Table.{State, Me, Act, step, keeps, takes, gives, Valid, stepped, carried_after, rest, Allows, Splits, Joins}
use Rattle.atomic_table.proofs.Lists.{set_else, set_here, exchanged}
use Rattle.board.specs.Locks.Share.{IsWhole, IsAboveZero, AddUpToOne}
use Rattle.board.proofs.Locks.Views.{still_add_up, split_adds_up, join_adds_up, others_are_spent}
use Rattle.board.specs.Locks.TurnView.{TurnView as View}
use Rattle.board.specs.Locks.Words.{turn_word}
use Rattle.board.specs.Locks.Rule.{IsKept, HasTurn}
use Rattle.board.specs.Locks.Plays.{Tries, Leaves, Reaches, Returns, with_turn, with_try, with_half, newcomer, with_both, spent_view}
use Rattle.board.proofs.Locks.Marks.{mark, mark_set, mark_else, no_marks, unmarked, same_slot}
use Rattle.board.proofs.Locks.Touches.{sound_of, kept_of, stands, alone, touched, noted, seated}

pub one_word : (i j : ℕ) → turn_word i ≡ turn_word j → i ≡ j
one_word i j e = omega (arith, e)

module _ {V : Type 0} (fits : ℕ → V → Type 0) (slots n id i : ℕ) (v : View) (below : i < slots) where
  module _ (s : State (Option V) View) (kept : IsKept fits slots s) (at : get_elem? s.views id ≡ some v) where
    shares_stay : (w : View) → w.share ≡ v.share → AddUpToOne (map (λ u. u.share) (slice_set s.views id w))
    shares_stay w same = still_add_up (λ u. u.share) s.views id v w at same kept.shares

    -- the only seat finds no turn taken that it does not hold
    pub only_seat : slice_index s.words (turn_word i) ≢ 0 → ¬ HasTurn v i → ¬ IsWhole v.share
    only_seat set_now mine all =
        let one = kept.taken i below set_now in
        ⊎_elim
        (λ (e : one.id ≡ id). mine (ap (λ (u : View). mark u i) (some-injective v one.view (sym at ∙ (ap (get_elem? s.views) (sym e) ∙ one.there))) ∙ one.holds))
        (λ (x : one.id ≢ id). kept.spent i one.id one.view one.there (others_are_spent (λ u. u.share) s.views id one.id v one.view at one.there x kept.shares all) one.holds)
        (cases_eq one.id id)

    pub won : v.out ≡ None → length v.holds ≡ slots → IsAboveZero v.share → slice_index s.words (turn_word i) ≡ 0
        → IsKept fits slots record { words = slice_set s.words (turn_word i) 1; homes = slice_set s.homes i none; views = slice_set s.views id (with_turn v i) }
    won out long above zero_now =
        kept_of fits slots _
        (touched fits slots s (sound_of fits slots s kept) id v at i 1 (slice_set s.homes i none) (with_turn v i) record {
          others = λ _ other u there _. kept.free i below zero_now other u there;
          marks = λ j x. mark_else v i j true x;
          spent = λ none_left. absurd (omega (arith, above, none_left));
          outs = λ j x _ e. none-some j (sym out ∙ e);
          homes = λ j x. set_else s.homes i j none x;
          free = λ _ e. absurd (omega (arith, e));
          taken = λ _ _. mark_set v i true (omega (arith, long));
          empty = λ _ _ x. absurd (x refl);
        })
        (shares_stay (with_turn v i) refl)

    pub lost : IsAboveZero v.share → IsKept fits slots record { words = s.words; homes = s.homes; views = slice_set s.views id (with_try v i) }
    lost above =
        kept_of fits slots _
        (noted fits slots s (sound_of fits slots s kept) id v at (with_try v i) (λ j. refl) refl (λ none_left. absurd (omega (arith, above, none_left))))
        (shares_stay (with_try v i) refl)

    -- the seat's slot comes and goes, while its turn stands taken
    pub moved : (w : View) (homes : List (maybe.Option (Option V))) → HasTurn v i → w.holds ≡ v.holds → w.share ≡ v.share → IsAboveZero v.share
        → ((j : ℕ) → j ≢ i → w.out ≢ Some j → v.out ≢ Some j)
        → ((j : ℕ) → j ≢ i → get_elem? homes j ≡ get_elem? s.homes j)
        → (w.out ≢ Some i → get_elem? homes i ≡ some (some None))
        → IsKept fits slots record { words = slice_set s.words (turn_word i) (slice_index s.words (turn_word i)); homes = homes; views = slice_set s.views id w }
    moved w homes mine holds share above outs else here =
        let sound = sound_of fits slots s kept in
        let marks : (j : ℕ) → mark w j ≡ mark v j = λ j. ap (λ (bs : List Bool). get_or bs j false) holds in
        kept_of fits slots _
        (touched fits slots s sound id v at i (slice_index s.words (turn_word i)) homes w record {
          others = λ _. alone fits slots s sound id v at i below mine;
          marks = λ j _. marks j;
          spent = λ none_left. let p = ap (λ x. x.parts) share in absurd (omega (arith, above, none_left, p));
          outs = outs;
          homes = else;
          free = λ _ e. absurd (stands fits slots s sound id v at i below mine e);
          taken = λ _ _. marks i ∙ mine;
          empty = λ _ _. here;
        })
        (shares_stay w share)

    pub given : (x : V) → fits i x → HasTurn v i → v.out ≡ Some i → length v.holds ≡ slots → IsAboveZero v.share → i < length s.homes
        → IsKept fits slots record { words = slice_set s.words (turn_word i) 0; homes = slice_set s.homes i (some (Some x)); views = slice_set s.views id (record v { holds = slice_set v.holds i false; out = None }) }
    given x ok mine out long above wide =
        let sound = sound_of fits slots s kept in
        let w : View = record v { holds = slice_set v.holds i false; out = None } in
        let unset : HasTurn w i → ⊥ = λ has. true≢false (sym has ∙ mark_set v i false (omega (arith, below, long))) in
        kept_of fits slots _
        (touched fits slots s sound id v at i 0 (slice_set s.homes i (some (Some x))) w record {
          others = λ _. alone fits slots s sound id v at i below mine;
          marks = λ j y. mark_else v i j false y;
          spent = λ none_left. absurd (omega (arith, above, none_left));
          outs = λ j y _ e. y (same_slot i j (sym out ∙ e));
          homes = λ j y. set_else s.homes i j (some (Some x)) y;
          free = λ _ _. ((x, set_here s.homes i (some (Some x)) wide, ok), unset);
          taken = λ _ y. absurd (y refl);
          empty = λ _ has. absurd (unset has);
        })
        (shares_stay w refl)

module _ {V : Type 0} (fits : ℕ → V → Type 0) (slots n id i : ℕ) (me : Me (Option V) View) (below : i < slots) (above : IsAboveZero me.0.share) where
  -- the outcome of a step that writes k to the turn word of i
  abbrev Goes : (State (Option V) View) → (ℕ → Me (Option V) View → Type 0) → ℕ → Type 0
  Goes s then k = (w : View) × (a : Act (Option V)) × Valid s.homes me.1 a × IsKept fits slots (stepped s (turn_word i) k id me.1 w a) × then (slice_index s.words (turn_word i)) (w, carried_after me.1 a)

  -- what a try tells
  abbrev Told : ℕ → Bool → ℕ → Me (Option V) View → Type 0
  Told r b j m = MatchBool b ((x : V) × fits j x × (m ≡ (with_turn me.0 j, (j, Some x) ∷ me.1))) ((¬ IsWhole me.0.share) × (m ≡ (with_try me.0 j, me.1)))

  wins : me.0.out ≡ None → length me.0.holds ≡ slots → (s : State (Option V) View) → IsKept fits slots s → get_elem? s.views id ≡ some me.0
      → slice_index s.words (turn_word i) ≡ 0 → Goes s (Tries fits (step n (turn_word i) 0 1 none) me) 1
  wins out long s kept at zero_now =
      let x = kept.value i below zero_now in
      let m : Me (Option V) View = (with_turn me.0 i, (i, Some x.0) ∷ me.1) in
      let told : Told (slice_index s.words (turn_word i)) (eqb (slice_index s.words (turn_word i)) 0) i m =
      subst (λ (b : Bool). Told (slice_index s.words (turn_word i)) b i m) (sym (eq-eqb (slice_index s.words (turn_word i)) 0 zero_now)) (x.0, x.2, refl) in (
        with_turn me.0 i,
        takes i (Some x.0),
        x.1,
        won fits slots n id i me.0 below s kept at out long above zero_now,
        λ j e. subst (λ (k : ℕ). Told (slice_index s.words (turn_word i)) (eqb (slice_index s.words (turn_word i)) 0) k m) (one_word i j e) told,
      )

  loses : ¬ HasTurn me.0 i → (s : State (Option V) View) → IsKept fits slots s → get_elem? s.views id ≡ some me.0
      → slice_index s.words (turn_word i) ≢ 0 → Goes s (Tries fits (step n (turn_word i) 0 1 none) me) (slice_index s.words (turn_word i))
  loses mine s kept at set_now =
      let m : Me (Option V) View = (with_try me.0 i, me.1) in
      let told : Told (slice_index s.words (turn_word i)) (eqb (slice_index s.words (turn_word i)) 0) i m =
      subst (λ (b : Bool). Told (slice_index s.words (turn_word i)) b i m) (sym (ne_eqb (slice_index s.words (turn_word i)) 0 set_now)) (only_seat fits slots n id i me.0 below s kept at set_now mine, refl) in (
        with_try me.0 i,
        keeps,
        tt,
        subst (λ (ws : List ℕ). IsKept fits slots record { words = ws; homes = s.homes; views = slice_set s.views id (with_try me.0 i) }) (sym (set-get_or s.words (turn_word i) 0))
            (lost fits slots n id i me.0 below s kept at above),
        λ j e. subst (λ (k : ℕ). Told (slice_index s.words (turn_word i)) (eqb (slice_index s.words (turn_word i)) 0) k m) (one_word i j e) told,
      )

  pub tries : me.0.out ≡ None → length me.0.holds ≡ slots → ¬ HasTurn me.0 i
      → Allows (IsKept fits slots) n id me (turn_word i) (λ k. either (eqb k 0) 1 k) (Tries fits (step n (turn_word i) 0 1 none) me)
  tries out long mine s kept wide at bound =
      exchanged (slice_index s.words (turn_word i)) 0 1 (Goes s (Tries fits (step n (turn_word i) 0 1 none) me)) (wins out long s kept at) (loses mine s kept at)

  pub leaves : n ≡ slots → me.1 ≡ (i, None) ∷ [] → me.0.out ≡ Some i → HasTurn me.0 i
      → Allows (IsKept fits slots) n id me (turn_word i) (λ k. k) (Leaves (step n (turn_word i) 0 0 none) me)
  leaves count has out mine s kept wide at bound =
      let w : View = record me.0 { out = None } in (
        w,
        gives,
        tt,
        subst (λ (l : List (ℕ × Option V)). IsKept fits slots (stepped s (turn_word i) (slice_index s.words (turn_word i)) id l w gives)) (sym has)
            (moved fits slots n id i me.0 below s kept at w (slice_set s.homes i (some None)) mine refl refl above
            (λ j y _ e. y (same_slot i j (sym out ∙ e)))
            (λ j y. set_else s.homes i j (some None) y)
            (λ _. set_here s.homes i (some None) (omega (arith, below, wide, count)))),
        refl,
      )

  pub reaches : me.0.out ≡ None → HasTurn me.0 i
      → Allows (IsKept fits slots) n id me (turn_word i) (λ k. k) (Reaches (step n (turn_word i) 0 0 none) me)
  reaches out mine s kept wide at bound =
      let w : View = record me.0 { out = Some i } in (
        w,
        takes i None,
        kept.empty i id me.0 below at mine (λ e. none-some i (sym out ∙ e)),
        moved fits slots n id i me.0 below s kept at w (slice_set s.homes i none) mine refl refl above
            (λ j y _ e. none-some j (sym out ∙ e))
            (λ j y. set_else s.homes i j none y)
            (λ x. absurd (x refl)),
        λ j e. let m : Me (Option V) View = (w, (i, None) ∷ me.1) in subst (λ (k : ℕ). m ≡ (record me.0 { out = Some k }, (k, None) ∷ me.1)) (one_word i j e) refl,
      )

  pub returns : n ≡ slots → (x : V) → fits i x → me.1 ≡ (i, Some x) ∷ [] → me.0.out ≡ Some i → length me.0.holds ≡ slots → HasTurn me.0 i
      → Allows (IsKept fits slots) n id me (turn_word i) (λ _. 0) (λ _. Returns (step n (turn_word i) 0 0 none) me 0)
  returns count x ok has out long mine s kept wide at bound =
      let w : View = record me.0 { holds = slice_set me.0.holds i false; out = None } in (
        w,
        gives,
        tt,
        subst (λ (l : List (ℕ × Option V)). IsKept fits slots (stepped s (turn_word i) 0 id l w gives)) (sym has)
            (given fits slots n id i me.0 below s kept at x ok mine out long above (omega (arith, below, wide, count))),
        λ j e. let m : Me (Option V) View = (w, rest me.1) in subst (λ (k : ℕ). m ≡ (record me.0 { holds = slice_set me.0.holds k false; out = None }, rest me.1)) (one_word i j e) refl,
      )

module _ {V : Type 0} (fits : ℕ → V → Type 0) (slots id : ℕ) (v : View) (nothing_held : (j : ℕ) → ¬ HasTurn v j) where
  pub splits : Splits {S = Option V} (IsKept fits slots) id v (with_half v) (newcomer v)
  splits s kept at =
      kept_of fits slots _
      (seated fits slots _
      (noted fits slots s (sound_of fits slots s kept) id v at (with_half v) (λ j. refl) refl (λ _. nothing_held))
      (newcomer v)
      (no_marks (length v.holds)))
      (split_adds_up (λ u. u.share) s.views id v (with_half v) (newcomer v) at refl refl kept.shares)

  pub joins : (other : ℕ) (w : View) → ((j : ℕ) → ¬ HasTurn w j) → w.out ≡ None → Joins {S = Option V} (IsKept fits slots) id v other w (with_both v w) spent_view
  joins other w none_held out s kept at apart there =
      kept_of fits slots _
      (noted fits slots _
      (noted fits slots s (sound_of fits slots s kept) id v at (with_both v w) (λ j. refl) refl (λ _. nothing_held))
      other w there spent_view (λ j. sym (unmarked (mark w j) (none_held j))) (sym out) (λ _ j e. true≢false (sym e)))
      (join_adds_up (λ u. u.share) s.views id other v w (with_both v w) spent_view at (sym (set_else s.views id other (with_both v w) apart) ∙ there) apart refl refl kept.shares)
