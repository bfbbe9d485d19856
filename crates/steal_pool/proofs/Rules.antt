-- Each move keeps the rule of a deque.
use Rattle.std.proofs.Common.{◌≡◌, ◌≢◌, ℕ, zero, suc, ◌+◌, ◌<◌, ◌≤◌, List, [], ◌∷◌, ◌++◌, length, set, sym, refl, ap, ◌∙◌, subst, ⊎_elim, append_assoc, append-nil, arith}
use mathlib.Core.Option.{some, some-injective, some-ne-none}
use lib.ListN.{get_elem?}
use Rattle.std.specs.List.{sum_by}
use Rattle.std.proofs.lemmas.List.Sums.{sum_by-append, sum_by_push}
use Rattle.crossbeam_deque.specs.Tasks.{Pushes, Takes, FindsFew, Finds, Forks, Merges}
use Rattle.crossbeam_deque.proofs.Lists.{at_set, at_snoc, set_again}
use Rattle.core_state.specs.declared.answer.Name.{Name}
use Rattle.steal_pool.specs.declared.note.Note.{Note}
use Rattle.steal_pool.specs.Often.{EachAsOften}
use Rattle.steal_pool.specs.Rule.{note, parts_of, taken_weight, Fits, Kept, HasAll, AreNext}
use Rattle.steal_pool.specs.PoolLaws.{NothingIsTakenTwice, FirstLeaveFirst}
use Rattle.steal_pool.proofs.Sums.{sum_set, sum_only}

abbrev parts : Note → ℕ
parts v = v.parts

abbrev weighs : (Name → ℕ) → Note → ℕ
weighs weight v = sum_by weight v.taken

abbrev AllFit : (ℕ → Note → Type 0) → List Note → Type 0
AllFit F notes = (port : ℕ) (v : Note) → get_elem? notes port ≡ some v → F port v

all_set : (F : ℕ → Note → Type 0) (notes : List Note) (port : ℕ) (w : Note) → F port w → ((j : ℕ) (u : Note) → j ≢ port → get_elem? notes j ≡ some u → F j u) → AllFit F (set notes port w)
all_set F notes port w mine others j u e = ⊎_elim (λ (x : (j ≡ port) × (w ≡ u)). subst (λ (y : ℕ × Note). F y.0 y.1) (λ i. (sym x.0 i, x.1 i)) mine)
    (λ (x : (j ≢ port) × (get_elem? notes j ≡ some u)). others j u x.0 x.1) (at_set notes port j w u e)

all_snoc : (F : ℕ → Note → Type 0) (notes : List Note) (w : Note) → ((j : ℕ) → F j w) → AllFit F notes → AllFit F (notes ++ w ∷ [])
all_snoc F notes w mine others j u e = ⊎_elim (λ (x : get_elem? notes j ≡ some u). others j u x) (λ (x : w ≡ u). subst (F j) x (mine j)) (at_snoc notes w u j e)

pub begins : Kept [] (note 1 1 [] [] ∷ [])
begins = (0, [], (λ weight. refl), first)
  where
    first : AllFit (Fits (parts_of (note 1 1 [] [] ∷ [])) 0 [] []) (note 1 1 [] [] ∷ [])
    first zero v e = subst (Fits 1 0 [] [] 0) (some-injective _ v e) ((λ h. refl), λ h. (refl, refl, refl))
    first (suc j) v e = absurd (some-ne-none v (sym e))

-- What has left the deque, where the owner's pass has all parts: the names that it has taken itself.
mine_left : (port : ℕ) (v : Note) (items : List Name) (notes : List Note) (kept : Kept items notes) → get_elem? notes port ≡ some v → HasAll v → EachAsOften kept.1 v.taken
mine_left port v items notes kept at all weight =
    let mine = (kept.3 port v at).1 all.0 in
    let whole : sum_by parts notes ≡ v.parts = sym mine.1 ∙ sym all.1 in
    sym (kept.2 weight) ∙ sum_only parts (weighs weight) notes port v at whole (λ j u e none. ap (sum_by weight) ((kept.3 j u e).0 none))

pub puts : (port : ℕ) (v : Note) (xs : List Name) → 0 < v.whole → Pushes Kept port v xs (λ w. w ≡ note v.parts v.whole (v.put ++ xs) v.taken)
puts port v xs owns items notes kept at =
    let w : Note = note v.parts v.whole (v.put ++ xs) v.taken in let mine = (kept.3 port v at).1 owns in
    let p = sum_set parts notes port v w at in
    let same : parts_of (set notes port w) ≡ parts_of notes = omega arith in (
      w,
      (
        kept.0,
        kept.1,
        (λ weight. let t = sum_set (weighs weight) notes port v w at in let k = kept.2 weight in omega arith),
        all_set (Fits (parts_of (set notes port w)) kept.0 kept.1 (items ++ xs)) notes port w
            ((kept.3 port v at).0, λ _. (mine.0, mine.1 ∙ sym same, ap (λ l. l ++ xs) mine.2 ∙ append_assoc kept.1 items xs))
            (λ j u other e. ((kept.3 j u e).0, λ h. absurd (other (((kept.3 j u e).1 h).0 ∙ sym mine.0)))),
      ),
      refl,
    )

pub takes : (port : ℕ) (v : Note) → 0 < v.parts → Takes Kept port v 1 (λ xs w. (w ≡ note v.parts v.whole v.put (v.taken ++ xs)) × (HasAll v → AreNext v xs))
takes port v some_part xs items notes _ _ kept at =
    let w : Note = note v.parts v.whole v.put (v.taken ++ xs) in
    let p = sum_set parts notes port v w at in
    let same : parts_of (set notes port w) ≡ parts_of notes = omega arith in (
      w,
      (
        kept.0,
        kept.1 ++ xs,
        (λ weight.
            let t = sum_set (weighs weight) notes port v w at in let k = kept.2 weight in
            omega (arith, sum_by-append weight v.taken xs, sum_by-append weight kept.1 xs)),
        all_set (Fits (parts_of (set notes port w)) kept.0 (kept.1 ++ xs) items) notes port w
            ((λ none. absurd (omega arith)), λ h. let mine = (kept.3 port v at).1 h in (mine.0, mine.1 ∙ sym same, mine.2 ∙ sym (append_assoc kept.1 xs items)))
            (λ j u other e. ((kept.3 j u e).0, λ h. let its = (kept.3 j u e).1 h in (its.0, its.1 ∙ sym same, its.2 ∙ sym (append_assoc kept.1 xs items)))),
      ),
      (refl, λ all. (kept.1, items, ((kept.3 port v at).1 all.0).2, mine_left port v (xs ++ items) notes kept at all)),
    )

pub finds : (port : ℕ) (v : Note) → Finds Kept port v (HasAll v → EachAsOften v.put v.taken)
finds port v notes kept at all weight =
    ap (sum_by weight) (((kept.3 port v at).1 all.0).2 ∙ append-nil kept.1) ∙ mine_left port v [] notes kept at all weight

-- A pass that is not the owner's never has all parts.
pub finds_few : (most port : ℕ) (v : Note) → v.whole ≡ 0 → FindsFew Kept most port v (HasAll v → EachAsOften v.put v.taken)
finds_few most port v none items notes few kept at all = absurd (omega (arith, all.0))

pub parts_off : (port : ℕ) (v : Note) → 0 < v.whole → Forks Kept port v (note v.parts (v.whole + 1) v.put v.taken) (note 1 0 [] [])
parts_off port v owns items notes kept at =
    let w : Note = note v.parts (v.whole + 1) v.put v.taken in let r : Note = note 1 0 [] [] in let mine = (kept.3 port v at).1 owns in
    let p = sum_set parts notes port v w at in
    let more : parts_of (set notes port w ++ r ∷ []) ≡ parts_of notes + 1 = omega (arith, sum_by_push parts (set notes port w) r) in (
      kept.0,
      kept.1,
      (λ weight. let t = sum_set (weighs weight) notes port v w at in let k = kept.2 weight in omega (arith, sum_by_push (weighs weight) (set notes port w) r)),
      all_snoc (Fits (parts_of (set notes port w ++ r ∷ [])) kept.0 kept.1 items) (set notes port w) r (λ j. ((λ _. refl), λ h. absurd (omega arith)))
          (all_set (Fits (parts_of (set notes port w ++ r ∷ [])) kept.0 kept.1 items) notes port w
          ((kept.3 port v at).0, λ _. (mine.0, omega (arith, mine.1), mine.2))
          (λ j u other e. ((kept.3 j u e).0, λ h. absurd (other (((kept.3 j u e).1 h).0 ∙ sym mine.0))))),
    )

pub spares_off : (port : ℕ) (v : Note) → Forks Kept port v v (note 0 0 [] [])
spares_off port v items notes kept at =
    let r : Note = note 0 0 [] [] in
    let rest : Kept items (notes ++ r ∷ []) =
    let same : parts_of notes ≡ parts_of (notes ++ r ∷ []) = omega (arith, sum_by_push parts notes r) in (
      kept.0,
      kept.1,
      (λ weight. let k = kept.2 weight in omega (arith, sum_by_push (weighs weight) notes r)),
      all_snoc (Fits (parts_of (notes ++ r ∷ [])) kept.0 kept.1 items) notes r (λ j. ((λ _. refl), λ h. absurd (omega arith)))
          (λ j u e. ((kept.3 j u e).0, λ h. let its = (kept.3 j u e).1 h in (its.0, its.1 ∙ same, its.2))),
    ) in
    subst (λ (l : List Note). Kept items (l ++ r ∷ [])) (sym (set_again notes port v at)) rest

pub gathers : (port : ℕ) (v : Note) (other : ℕ) (w : Note) → 0 < v.whole
    → Merges Kept port v other w (note (v.parts + w.parts) v.whole v.put (v.taken ++ w.taken)) (note 0 0 [] [])
gathers port v other w owns items notes kept at two at' =
    let both : Note = note (v.parts + w.parts) v.whole v.put (v.taken ++ w.taken) in let spent : Note = note 0 0 [] [] in
    let mine = (kept.3 port v at).1 owns in
    let was : get_elem? notes other ≡ some w = ⊎_elim (λ x. absurd (two x.0)) (λ x. x.1) (at_set notes port other both w at') in
    let mid : List Note = set notes port both in let end : List Note = set mid other spent in
    let p = sum_set parts notes port v both at in let q = sum_set parts mid other w spent at' in
    let same : parts_of notes ≡ parts_of end = omega arith in
    let F : ℕ → Note → Type 0 = Fits (parts_of end) kept.0 kept.1 items in
    let Now : ℕ → Note → Type 0 = λ j u. j ≢ other → F j u in
    let now : AllFit Now mid = all_set Now notes port both
    (λ _. ((λ none. ap (λ l. l ++ w.taken) ((kept.3 port v at).0 (omega arith)) ∙ (kept.3 other w was).0 (omega arith)), λ _. (mine.0, mine.1 ∙ same, mine.2)))
    (λ j u differs e apart. ((kept.3 j u e).0, λ h. absurd (differs (((kept.3 j u e).1 h).0 ∙ sym mine.0)))) in (
      kept.0,
      kept.1,
      (λ weight.
          let s = sum_set (weighs weight) notes port v both at in let t = sum_set (weighs weight) mid other w spent at' in let k = kept.2 weight in
          omega (arith, sum_by-append weight v.taken w.taken)),
      all_set F mid other spent ((λ _. refl), λ h. absurd (omega arith)) (λ j u apart e. now j u e apart),
    )

-- The laws of a deque.
pub nothing_twice : NothingIsTakenTwice
nothing_twice items notes kept port owner at owns weight =
    let put = ((kept.3 port owner at).1 owns).2 in
    ap (sum_by weight) put ∙ (sum_by-append weight kept.1 items ∙ ap (λ (n : ℕ). n + sum_by weight items) (sym (kept.2 weight)))

pub first_first : FirstLeaveFirst
first_first items notes kept port owner at owns = record {
  left = kept.1;
  put_is = ((kept.3 port owner at).1 owns).2;
  taken = kept.2;
}
