-- The changes of the marks, one by one.
use Rattle.std.proofs.Common.{◌≡◌, ℕ, ◌+◌, ◌<◌, ◌≤◌, ◌⊎◌, Bool, true, false, List, [], ◌∷◌, ◌++◌, length, get_or, set, Option, IsSome, refl, sym, ap, ◌∙◌, subst, arith, inl, inr}
use Rattle.std.specs.Prelude.{IfSome, Contains, All}
use Rattle.std.proofs.lemmas.Bool.{cases_eq}
use Rattle.std.proofs.lemmas.List.{length_push, length-set, get_or-set_same, get_or-set_other}
use Rattle.std.proofs.lemmas.List.Elements.{All-push, Contains-append_left, Contains-push}
use Rattle.cfg_model.specs.Program.Instructions.{InstructionMap}
use Rattle.reached_terms.specs.declared.marks.Way.{Way}
use Rattle.reached_terms.specs.declared.marks.Marks.{Marks}
use Rattle.reached_terms.specs.Inner.Marks.{IsOn, IsNumberOf, HasWay, IsWay, IsLast, AreKept, AreRight, AreTold, LeadsBy, ReturnsBy, IsDone}
use Rattle.reached_terms.specs.Inner.Steps.{Grow, Step, IsMarked, IsLinked, left_to_tell}
use Rattle.reached_terms.proofs.Bits.{on_set, on_kept, on_cases, one_less, none_less, is_on}
use Rattle.reached_terms.proofs.Growth.{done-grow, listed-grow}
use Rattle.reached_terms.proofs.Links.{old_way, new_way, way_cases, last-kept, last-new, last-other}

-- a number of an instruction is below their count
pub number_below : (map : InstructionMap) (number : ℕ → ℕ) (m : Marks) → AreKept map number m → (n : ℕ) → IsNumberOf map number n → n < length m.reached.items
number_below map number m kept n is = subst (λ k. k < length m.reached.items) (sym is.is) (kept.numbering.below is.at is.has)

-- ---- one that returns is marked

module _ (map : InstructionMap) (number : ℕ → ℕ) (n : ℕ) (old new : Marks) (kept : AreKept map number old) (is_number : IsNumberOf map number n) (marked : IsMarked n old new) where
  within : n < length old.returns.items
  within = omega (arith, number_below map number old kept n is_number, kept.returns)

  same_reached : new.reached.items ≡ old.reached.items
  same_reached = ap (λ v. v.items) marked.reached

  same_ways : new.ways.items ≡ old.ways.items
  same_ways = ap (λ v. v.items) marked.ways

  same_order : new.order.items ≡ old.order.items
  same_order = ap (λ v. v.items) marked.order

  same_waiting : new.waiting.items ≡ old.waiting.items
  same_waiting = ap (λ v. v.items) marked.waiting

  same_sent : new.sent.items ≡ old.sent.items
  same_sent = ap (λ v. v.items) marked.sent

  -- who is still to be told is, or was before
  untold_cases : (was : Bool) → get_or old.returns.items n true ≡ was → (was ≡ true) × (new.untold.items ≡ old.untold.items) ⊎ ((was ≡ false) × (new.untold.items ≡ old.untold.items ++ n ∷ []))
  untold_cases true was = inl (refl, rw was at marked.untold)
  untold_cases false was = inr (refl, rw was at marked.untold)

  mark_untold : (P : ℕ → Type 0) → P n → All P old.untold.items → All P new.untold.items
  mark_untold P here all = elim (untold_cases (get_or old.returns.items n true) refl) [
    | inl was ↦ subst (λ xs. All P xs) (sym was.1) all
    | inr off ↦ subst (λ xs. All P xs) (sym off.1) (All-push P old.untold.items n all here)
  ]

  mark_grow : Grow old new
  mark_grow = record {
    size = rw same_reached refl;
    reached = λ m on. rw same_reached on;
    returns = λ m on. rw marked.returns (on_kept old.returns.items n within m on);
    ways = λ way there. rw same_ways there;
    more_ways = rw same_ways (omega arith);
    same_ways = λ i d inside. rw same_ways refl;
    more = rw same_order (omega arith);
    same = λ i d inside. rw same_order refl;
    sent = λ a there. rw same_sent there;
    counted = rw (same_reached, same_order) refl;
  }

  mark_kept : AreKept map number new
  mark_kept = record {
    lawful = kept.lawful;
    numbering = rw same_reached kept.numbering;
    returns = rw (same_reached, marked.returns) (length-set old.returns.items n true ∙ kept.returns);
    waiting = rw (same_reached, same_waiting) kept.waiting;
    order = rw (same_reached, same_order) kept.order;
    ends = rw same_reached kept.ends;
    listed = λ k k_has on. listed-grow map number old new mark_grow k (kept.listed k k_has (rw same_reached at on));
    ways = rw same_ways kept.ways;
    untold = mark_untold (IsNumberOf map number) is_number kept.untold;
    last = rw (same_reached, same_ways, same_waiting) kept.last;
    before = rw same_ways kept.before;
    sent = rw (same_reached, same_sent) kept.sent;
  }

  mark_right : (seeds : List ℕ) → AreRight map number seeds old → ReturnsBy map number n → AreRight map number seeds new
  mark_right seeds right given = record {
    reached = rw same_reached right.reached;
    returns = λ m on. elim (on_cases old.returns.items n within m (rw marked.returns at on)) [
      | inl same ↦ subst (ReturnsBy map number) (sym same) given
      | inr before ↦ right.returns m before
    ];
    ways = rw same_ways right.ways;
    untold = mark_untold (ReturnsBy map number) given right.untold;
    leads = rw same_sent right.leads;
  }

  still_untold : (m : ℕ) → Contains old.untold.items m → Contains new.untold.items m
  still_untold m there = elim (untold_cases (get_or old.returns.items n true) refl) [
    | inl was ↦ subst (λ xs. Contains xs m) (sym was.1) there
    | inr off ↦ subst (λ xs. Contains xs m) (sym off.1) (Contains-append_left old.untold.items (n ∷ []) m there)
  ]

  -- one that was not marked before is n, and is to be told of
  mark_new : (m : ℕ) → IsOn new.returns.items m → IsOn old.returns.items m ⊎ Contains new.untold.items m
  mark_new m on = elim (on_cases old.returns.items n within m (rw marked.returns at on)) [
    | inr before ↦ inl before
    | inl same ↦ elim (untold_cases (get_or old.returns.items n true) refl) [
      | inl was ↦ inl (subst (λ k. IsOn old.returns.items k) (sym same) (is_on old.returns.items n within was.0))
      | inr off ↦ inr (subst (λ xs. Contains xs m) (sym off.1) (subst (λ k. Contains (old.untold.items ++ n ∷ []) k) (sym same) (Contains-push old.untold.items n)))
    ]
  ]

  mark_told : (p at : ℕ) → AreTold map number old p at → AreTold map number new p at
  mark_told p at told i d inside on =
      let way : get_or new.ways.items i d ≡ get_or old.ways.items i d = ap (λ xs. get_or xs i d) same_ways in
      let w = get_or old.ways.items i d in
      let before : i < length old.ways.items = omega (arith, inside, ap (λ (xs : List Way). length xs) same_ways) in
      let on_it : IsOn new.returns.items w.to = subst (λ (v : Way). IsOn new.returns.items v.to) way on in
      subst (λ (v : Way). IsDone map number new v ⊎ (Contains new.untold.items v.to ⊎ ((v.to ≡ p) × (i < at)))) (sym way)
      (elim (mark_new w.to on_it) [
        | inr here ↦ inr (inl here)
        | inl was ↦ elim (told i d before was) [
          | inl done ↦ inl (done-grow map number old new mark_grow w.from w.fall done)
          | inr rest ↦ elim rest [
            | inl there ↦ inr (inl (still_untold w.to there))
            | inr behind ↦ inr (inr behind)
          ]
        ]
      ])

  mark_left : left_to_tell new ≤ left_to_tell old
  mark_left = elim (untold_cases (get_or old.returns.items n true) refl) [
    | inl was ↦ rw (marked.returns, was.1) (omega (arith, none_less old.returns.items n within was.0))
    | inr off ↦ rw (marked.returns, off.1) (omega (arith, one_less old.returns.items n within off.0, length_push old.untold.items n))
  ]

  pub mark-step : Step map number (λ seeds. ReturnsBy map number n) old new
  mark-step = record { kept = mark_kept; grow = mark_grow; right = mark_right; told = mark_told; left = mark_left }

  pub mark-on : IsOn new.returns.items n
  mark-on = rw marked.returns (on_set old.returns.items n within)

-- ---- one more way is linked

module _ (map : InstructionMap) (number : ℕ → ℕ) (from to : ℕ) (fall : Option ℕ) (old new : Marks) (kept : AreKept map number old)
    (from_is : IsNumberOf map number from) (to_is : IsNumberOf map number to) (known : IfSome fall (λ f. IsSome (map f))) (linked : IsLinked from to fall old new) where
  to_within : to < length old.waiting.items
  to_within = omega (arith, number_below map number old kept to to_is, kept.waiting)

  abbrev way : Way
  way = record { from = from; to = to; fall = fall; before = linked.before }

  l_reached : new.reached.items ≡ old.reached.items
  l_reached = ap (λ v. v.items) linked.reached

  l_returns : new.returns.items ≡ old.returns.items
  l_returns = ap (λ v. v.items) linked.returns

  l_order : new.order.items ≡ old.order.items
  l_order = ap (λ v. v.items) linked.order

  l_untold : new.untold.items ≡ old.untold.items
  l_untold = ap (λ v. v.items) linked.untold

  l_sent : new.sent.items ≡ old.sent.items
  l_sent = ap (λ v. v.items) linked.sent

  link_last : (n d : ℕ) → n < length old.reached.items → IsLast (old.ways.items ++ way ∷ []) n (length (old.ways.items ++ way ∷ [])) (get_or (set old.waiting.items to (length old.ways.items + 1)) n d)
  link_last n d inside = elim (cases_eq n to) [
    | inl same ↦
        let at : get_or (set old.waiting.items to (length old.ways.items + 1)) n d ≡ length old.ways.items + 1 =
        ap (λ k. get_or (set old.waiting.items to (length old.ways.items + 1)) k d) same ∙ get_or-set_same old.waiting.items to (length old.ways.items + 1) d to_within in
        subst (λ a. IsLast (old.ways.items ++ way ∷ []) n (length (old.ways.items ++ way ∷ [])) a) (sym at)
        (subst (λ k. IsLast (old.ways.items ++ way ∷ []) k (length (old.ways.items ++ way ∷ [])) (length old.ways.items + 1)) (sym same) (last-new old.ways.items way))
    | inr other ↦
        let at : get_or (set old.waiting.items to (length old.ways.items + 1)) n d ≡ get_or old.waiting.items n d = get_or-set_other old.waiting.items to n (length old.ways.items + 1) d other in
        subst (λ a. IsLast (old.ways.items ++ way ∷ []) n (length (old.ways.items ++ way ∷ [])) a) (sym at)
        (last-other old.ways.items way n (get_or old.waiting.items n d) other (kept.last n d inside))
  ]

  link_before : (i : ℕ) (d : Way) → i < length (old.ways.items ++ way ∷ []) → IsLast (old.ways.items ++ way ∷ []) (get_or (old.ways.items ++ way ∷ []) i d).to i (get_or (old.ways.items ++ way ∷ []) i d).before
  link_before i d inside = elim (way_cases old.ways.items way i inside) [
    | inl less ↦ subst (λ (w : Way). IsLast (old.ways.items ++ way ∷ []) w.to i w.before) (sym (old_way old.ways.items way i d less))
        (last-kept old.ways.items way (get_or old.ways.items i d).to i (get_or old.ways.items i d).before (omega arith) (kept.before i d less))
    | inr same ↦
        let is : get_or (old.ways.items ++ way ∷ []) i d ≡ way = ap (λ k. get_or (old.ways.items ++ way ∷ []) k d) same ∙ new_way old.ways.items way d in
        subst (λ (w : Way). IsLast (old.ways.items ++ way ∷ []) w.to i w.before) (sym is)
        (subst (λ a. IsLast (old.ways.items ++ way ∷ []) to i a) (sym (linked.is_before 0 to_within))
        (subst (λ k. IsLast (old.ways.items ++ way ∷ []) to k (get_or old.waiting.items to 0)) (sym same)
        (last-kept old.ways.items way to (length old.ways.items) (get_or old.waiting.items to 0) (omega arith) (kept.last to 0 (number_below map number old kept to to_is)))))
  ]

  link_grow : Grow old new
  link_grow = record {
    size = rw l_reached refl;
    reached = λ m on. rw l_reached on;
    returns = λ m on. rw l_returns on;
    ways = λ w there. rw linked.ways (Contains-append_left old.ways.items (way ∷ []) w there);
    more_ways = rw linked.ways (omega (arith, length_push old.ways.items way));
    same_ways = λ i d inside. rw linked.ways (old_way old.ways.items way i d inside);
    more = rw l_order (omega arith);
    same = λ i d inside. rw l_order refl;
    sent = λ a there. rw l_sent there;
    counted = rw (l_reached, l_order) refl;
  }

  link_kept : AreKept map number new
  link_kept = record {
    lawful = kept.lawful;
    numbering = rw l_reached kept.numbering;
    returns = rw (l_reached, l_returns) kept.returns;
    waiting = rw (l_reached, linked.waiting) (length-set old.waiting.items to (length old.ways.items + 1) ∙ kept.waiting);
    order = rw (l_reached, l_order) kept.order;
    ends = rw l_reached kept.ends;
    listed = λ k k_has on. listed-grow map number old new link_grow k (kept.listed k k_has (rw l_reached at on));
    ways = rw linked.ways (All-push (IsWay map number) old.ways.items way kept.ways (record { from = from_is; to = to_is; fall = known }));
    untold = rw l_untold kept.untold;
    last = rw (l_reached, linked.ways, linked.waiting) link_last;
    before = rw linked.ways link_before;
    sent = rw (l_reached, l_sent) kept.sent;
  }

  link_right : (seeds : List ℕ) → AreRight map number seeds old → LeadsBy map number seeds from to fall → AreRight map number seeds new
  link_right seeds right given = record {
    reached = rw l_reached right.reached;
    returns = rw l_returns right.returns;
    ways = rw linked.ways (All-push (λ w. LeadsBy map number seeds w.from w.to w.fall) old.ways.items way right.ways given);
    untold = rw l_untold right.untold;
    leads = rw l_sent right.leads;
  }

  link_told : (IsOn old.returns.items to → ⊥) → (p at : ℕ) → AreTold map number old p at → AreTold map number new p at
  link_told waits p at told i d inside on = elim (way_cases old.ways.items way i (rw linked.ways at inside)) [
    | inl less ↦
        let is : get_or new.ways.items i d ≡ get_or old.ways.items i d = ap (λ xs. get_or xs i d) linked.ways ∙ old_way old.ways.items way i d less in
        let w = get_or old.ways.items i d in
        let was : IsOn old.returns.items w.to = subst (λ (v : Way). IsOn old.returns.items v.to) is (rw l_returns at on) in
        subst (λ (v : Way). IsDone map number new v ⊎ (Contains new.untold.items v.to ⊎ ((v.to ≡ p) × (i < at)))) (sym is)
        (elim (told i d less was) [
          | inl before ↦ inl (done-grow map number old new link_grow w.from w.fall before)
          | inr rest ↦ elim rest [
            | inl there ↦ inr (inl (rw l_untold there))
            | inr behind ↦ inr (inr behind)
          ]
        ])
    | inr same ↦
        let is : get_or new.ways.items i d ≡ way = ap (λ xs. get_or xs i d) linked.ways ∙ ap (λ k. get_or (old.ways.items ++ way ∷ []) k d) same ∙ new_way old.ways.items way d in
        absurd (waits (subst (λ (v : Way). IsOn old.returns.items v.to) is (rw l_returns at on)))
  ]

  -- it is linked only if its end is not known to return
  pub link-step : (IsOn old.returns.items to → ⊥) → Step map number (λ seeds. LeadsBy map number seeds from to fall) old new
  link-step waits = record { kept = link_kept; grow = link_grow; right = link_right; told = link_told waits; left = rw (l_returns, l_untold) (omega arith) }

pub linked-way : (from to : ℕ) (fall : Option ℕ) (old new : Marks) → IsLinked from to fall old new → HasWay new.ways.items from to fall
linked-way from to fall old new linked =
    let way : Way = record { from = from; to = to; fall = fall; before = linked.before } in
    record { way = way; there = rw linked.ways (Contains-push old.ways.items way); from_is = refl; to_is = refl; fall_is = refl }
