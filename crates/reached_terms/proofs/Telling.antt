-- All that wait for a terminator are told, from the last to the first.
use Rattle.std.proofs.Common.{◌≡◌, ℕ, suc, ◌<◌, ◌≤◌, ◌⊎◌, List, [], ◌∷◌, ◌++◌, length, get_or, refl, sym, ap, ◌∙◌, subst, arith, inl, inr}
use Rattle.std.specs.Prelude.{All, Contains}
use Rattle.std.proofs.lemmas.Bool.{cases_order}
use Rattle.std.proofs.lemmas.List.{get_or_append_left, length_push}
use Rattle.std.proofs.lemmas.List.Elements.{Contains-push, Contains-push_cases}
use Rattle.cfg_model.specs.Program.Instructions.{InstructionMap}
use Rattle.reached_terms.specs.declared.marks.Way.{Way}
use Rattle.reached_terms.specs.declared.marks.Marks.{Marks}
use Rattle.reached_terms.specs.Inner.Marks.{IsOn, IsNumberOf, IsWay, IsLast, AreKept, AreRight, AreTold, LeadsBy, ReturnsBy, IsDone}
use Rattle.reached_terms.specs.Inner.Steps.{Grow, Step, left_to_tell}
use Rattle.reached_terms.proofs.Growth.{grow-none, grow-on, done-grow, listed-grow}

-- On the way through those that wait for n: the one at the place at, from 1 on, comes next.
pub record IsTelling (map : InstructionMap) (number : ℕ → ℕ) (n : ℕ) (start now : Marks) (at : ℕ) : Type 0 where
  pub kept : AreKept map number now
  pub grow : Grow start now
  pub right : (seeds : List ℕ) → AreRight map number seeds start → ReturnsBy map number n → AreRight map number seeds now
  pub told : AreTold map number start n (length start.ways.items) → AreTold map number now n at
  pub left : left_to_tell now ≤ left_to_tell start
  pub within : at ≤ length now.ways.items
  pub next : (p : ℕ) (d : Way) → at ≡ suc p → (get_or now.ways.items p d).to ≡ n

module _ (map : InstructionMap) (number : ℕ → ℕ) (n : ℕ) (start : Marks) where
  pub telling-begins : AreKept map number start → (at : ℕ) → IsLast start.ways.items n (length start.ways.items) at → IsTelling map number n start start at
  telling-begins kept at last = record {
    kept = kept;
    grow = grow-none start;
    right = λ seeds right returns. right;
    told = λ told i d inside on. elim (told i d inside on) [
      | inl done ↦ inl done
      | inr rest ↦ elim rest [
        | inl there ↦ inr (inl there)
        | inr behind ↦ elim (cases_order i at) [
          | inl same ↦ absurd (last.none i d (omega (arith, same)) inside behind.0)
          | inr other ↦ elim other [
            | inl less ↦ inr (inr (behind.0, less))
            | inr more ↦ absurd (last.none i d (omega (arith, more)) inside behind.0)
          ]
        ]
      ]
    ];
    left = omega arith;
    within = last.within;
    next = last.hit;
  }

  module _ (now new : Marks) (p at : ℕ) (way : Way) (at_is : at ≡ suc p) (way_is : (d : Way) → get_or now.ways.items p d ≡ way) (telling : IsTelling map number n start now at)
      (step : Step map number (λ seeds. LeadsBy map number seeds way.from way.to way.fall × ReturnsBy map number way.to) now new) (done : IsDone map number new way) where
    p_within : p < length now.ways.items
    p_within = omega (arith, at_is, telling.within)

    to_n : way.to ≡ n
    to_n = sym (ap (λ (w : Way). w.to) (way_is way)) ∙ telling.next p way at_is

    last : IsLast now.ways.items n p way.before
    last =
        let before = telling.kept.before p way p_within in
        let there : IsLast now.ways.items way.to p way.before = subst (λ (w : Way). IsLast now.ways.items w.to p w.before) (way_is way) before in
        subst (λ k. IsLast now.ways.items k p way.before) to_n there

    same_to : (i : ℕ) (d : Way) → i < length now.ways.items → (get_or new.ways.items i d).to ≡ (get_or now.ways.items i d).to
    same_to i d inside = ap (λ (w : Way). w.to) (step.grow.same_ways i d inside)

    told_on : AreTold map number now n at → AreTold map number new n way.before
    told_on told i d inside on = elim (step.told n at told i d inside on) [
      | inl finished ↦ inl finished
      | inr rest ↦ elim rest [
        | inl there ↦ inr (inl there)
        | inr behind ↦ elim (cases_order i p) [
          | inl same ↦
              let is : get_or new.ways.items i d ≡ way = ap (λ k. get_or new.ways.items k d) same ∙ step.grow.same_ways p d p_within ∙ way_is d in
              inl (subst (IsDone map number new) (sym is) done)
          | inr other ↦ elim other [
            | inr more ↦ absurd (omega (arith, behind.1, at_is, more))
            | inl less ↦
                let to_is : (get_or now.ways.items i d).to ≡ n = sym (same_to i d (omega (arith, less, p_within))) ∙ behind.0 in
                elim (cases_order i way.before) [
                  | inl here ↦ absurd (last.none i d (omega (arith, here)) less to_is)
                  | inr place ↦ elim place [
                    | inl lower ↦ inr (inr (behind.0, lower))
                    | inr above ↦ absurd (last.none i d (omega (arith, above)) less to_is)
                  ]
                ]
          ]
        ]
      ]
    ]

    pub telling-on : IsTelling map number n start new way.before
    telling-on = record {
      kept = step.kept;
      grow = grow-on start now new telling.grow step.grow;
      right = λ seeds right returns.
          let half = telling.right seeds right returns in
          step.right seeds half (
            subst (λ (w : Way). LeadsBy map number seeds w.from w.to w.fall) (way_is way) (half.ways p way p_within),
            subst (ReturnsBy map number) (sym to_n) returns,
          );
      told = λ told. told_on (telling.told told);
      left = omega (arith, step.left, telling.left);
      within = omega (arith, last.within, p_within, step.grow.more_ways);
      next = λ q d is. same_to q d (omega (arith, is, last.within, p_within)) ∙ last.hit q d is;
    }

    pub one_back : way.before < at
    one_back = omega (arith, last.within, at_is)

    pub way_kept : IsWay map number way
    way_kept = subst (IsWay map number) (way_is way) (telling.kept.ways p way p_within)

  pub telling-ends : (now : Marks) (at : ℕ) → at ≡ 0 → IsTelling map number n start now at → AreTold map number start n (length start.ways.items) → (m : ℕ) → AreTold map number now m 0
  telling-ends now at none telling told m i d inside on = elim (telling.told told i d inside on) [
    | inl done ↦ inl done
    | inr rest ↦ elim rest [
      | inl there ↦ inr (inl there)
      | inr behind ↦ absurd (omega (arith, behind.1, none))
    ]
  ]

-- ---- one less that is to be told of

module _ (map : InstructionMap) (number : ℕ → ℕ) (n : ℕ) (old new : Marks) (kept : AreKept map number old)
    (reached : new.reached ≡ old.reached) (returns : new.returns ≡ old.returns) (waiting : new.waiting ≡ old.waiting) (order : new.order ≡ old.order) (ways : new.ways ≡ old.ways) (sent : new.sent ≡ old.sent)
    (untold : old.untold.items ≡ new.untold.items ++ n ∷ []) where
  p_reached : new.reached.items ≡ old.reached.items
  p_reached = ap (λ v. v.items) reached

  p_returns : new.returns.items ≡ old.returns.items
  p_returns = ap (λ v. v.items) returns

  p_waiting : new.waiting.items ≡ old.waiting.items
  p_waiting = ap (λ v. v.items) waiting

  p_order : new.order.items ≡ old.order.items
  p_order = ap (λ v. v.items) order

  p_ways : new.ways.items ≡ old.ways.items
  p_ways = ap (λ v. v.items) ways

  p_sent : new.sent.items ≡ old.sent.items
  p_sent = ap (λ v. v.items) sent

  rest_of : (P : ℕ → Type 0) → All P old.untold.items → All P new.untold.items
  rest_of P all k d below =
      let whole : All P (new.untold.items ++ n ∷ []) = subst (λ xs. All P xs) untold all in
      subst P (get_or_append_left new.untold.items (n ∷ []) d k below) (whole k d (omega (arith, below, length_push new.untold.items n)))

  last_of : (P : ℕ → Type 0) → All P old.untold.items → P n
  last_of P all =
      let whole : All P (new.untold.items ++ n ∷ []) = subst (λ xs. All P xs) untold all in
      let at = Contains-push new.untold.items n in
      subst P at.2 (whole at.0 n at.1)

  pub popped-number : IsNumberOf map number n
  popped-number = last_of (IsNumberOf map number) kept.untold

  pub popped-grow : Grow old new
  popped-grow = record {
    size = rw p_reached refl;
    reached = λ m on. rw p_reached on;
    returns = λ m on. rw p_returns on;
    ways = λ way there. rw p_ways there;
    more_ways = rw p_ways (omega arith);
    same_ways = λ i d inside. rw p_ways refl;
    more = rw p_order (omega arith);
    same = λ i d inside. rw p_order refl;
    sent = λ a there. rw p_sent there;
    counted = rw (p_reached, p_order) refl;
  }

  pub popped-kept : AreKept map number new
  popped-kept = record {
    lawful = kept.lawful;
    numbering = rw p_reached kept.numbering;
    returns = rw (p_reached, p_returns) kept.returns;
    waiting = rw (p_reached, p_waiting) kept.waiting;
    order = rw (p_reached, p_order) kept.order;
    ends = rw p_reached kept.ends;
    listed = λ k k_has on. listed-grow map number old new popped-grow k (kept.listed k k_has (rw p_reached at on));
    ways = rw p_ways kept.ways;
    untold = rest_of (IsNumberOf map number) kept.untold;
    last = rw (p_reached, p_ways, p_waiting) kept.last;
    before = rw p_ways kept.before;
    sent = rw (p_reached, p_sent) kept.sent;
  }

  pub popped-right : (seeds : List ℕ) → AreRight map number seeds old → AreRight map number seeds new × ReturnsBy map number n
  popped-right seeds right = (
    record {
      reached = rw p_reached right.reached;
      returns = rw p_returns right.returns;
      ways = rw p_ways right.ways;
      untold = rest_of (ReturnsBy map number) right.untold;
      leads = rw p_sent right.leads;
    },
    last_of (ReturnsBy map number) right.untold,
  )

  pub popped-told : AreTold map number old n 0 → AreTold map number new n (length new.ways.items)
  popped-told told i d inside on =
      let is : get_or new.ways.items i d ≡ get_or old.ways.items i d = ap (λ xs. get_or xs i d) p_ways in
      let w = get_or old.ways.items i d in
      let was : IsOn old.returns.items w.to = subst (λ (v : Way). IsOn old.returns.items v.to) is (rw p_returns at on) in
      subst (λ (v : Way). IsDone map number new v ⊎ (Contains new.untold.items v.to ⊎ ((v.to ≡ n) × (i < length new.ways.items)))) (sym is)
      (elim (told i d (rw p_ways at inside) was) [
        | inl done ↦ inl (done-grow map number old new popped-grow w.from w.fall done)
        | inr rest ↦ elim rest [
          | inr before ↦ absurd (omega (arith, before.1))
          | inl there ↦ elim (Contains-push_cases new.untold.items n w.to (subst (λ xs. Contains xs w.to) untold there)) [
            | inl still ↦ inr (inl still)
            | inr here ↦ inr (inr (sym here, inside))
          ]
        ]
      ])

  pub popped-left : left_to_tell new < left_to_tell old
  popped-left = rw (p_returns, untold) (omega (arith, length_push new.untold.items n))

-- ---- telling all

-- What holds before each is told of.
pub record AreTelling (map : InstructionMap) (number : ℕ → ℕ) (start now : Marks) : Type 0 where
  pub kept : AreKept map number now
  pub grow : Grow start now
  pub right : (seeds : List ℕ) → AreRight map number seeds start → AreRight map number seeds now
  pub told : ((n : ℕ) → AreTold map number start n 0) → (n : ℕ) → AreTold map number now n 0

module _ (map : InstructionMap) (number : ℕ → ℕ) (start now : Marks) where
  pub all-begins : AreKept map number start → AreTelling map number start start
  all-begins kept = record { kept = kept; grow = grow-none start; right = λ seeds right. right; told = λ told. told }

  module _ (n : ℕ) (popped new : Marks) (telling : AreTelling map number start now)
      (to_popped : Grow now popped) (right : (seeds : List ℕ) → AreRight map number seeds now → AreRight map number seeds popped × ReturnsBy map number n)
      (told : AreTold map number now n 0 → AreTold map number popped n (length popped.ways.items))
      (new_kept : AreKept map number new) (to_new : Grow popped new)
      (new_right : (seeds : List ℕ) → AreRight map number seeds popped → ReturnsBy map number n → AreRight map number seeds new)
      (new_told : AreTold map number popped n (length popped.ways.items) → (m : ℕ) → AreTold map number new m 0) where
    pub all-on : AreTelling map number start new
    all-on = record {
      kept = new_kept;
      grow = grow-on start popped new (grow-on start now popped telling.grow to_popped) to_new;
      right = λ seeds is. let half = right seeds (telling.right seeds is) in new_right seeds half.0 half.1;
      told = λ before m. new_told (told (telling.told before n)) m;
    }

-- ---- none is left to be told of

module _ (map : InstructionMap) (number : ℕ → ℕ) (old new : Marks)
    (reached : new.reached ≡ old.reached) (returns : new.returns ≡ old.returns) (order : new.order ≡ old.order) (ways : new.ways ≡ old.ways) (sent : new.sent ≡ old.sent)
    (old_none : length old.untold.items ≡ 0) (new_none : length new.untold.items ≡ 0) where
  n_reached : new.reached.items ≡ old.reached.items
  n_reached = ap (λ v. v.items) reached

  n_returns : new.returns.items ≡ old.returns.items
  n_returns = ap (λ v. v.items) returns

  n_ways : new.ways.items ≡ old.ways.items
  n_ways = ap (λ v. v.items) ways

  n_order : new.order.items ≡ old.order.items
  n_order = ap (λ v. v.items) order

  n_sent : new.sent.items ≡ old.sent.items
  n_sent = ap (λ v. v.items) sent

  n_grow : Grow old new
  n_grow = record {
    size = rw n_reached refl;
    reached = λ m on. rw n_reached on;
    returns = λ m on. rw n_returns on;
    ways = λ way there. rw n_ways there;
    more_ways = rw n_ways (omega arith);
    same_ways = λ i d inside. rw n_ways refl;
    more = rw n_order (omega arith);
    same = λ i d inside. rw n_order refl;
    sent = λ a there. rw n_sent there;
    counted = rw (n_reached, n_order) refl;
  }

  pub none-kept : new.waiting.items ≡ old.waiting.items → AreKept map number old → AreKept map number new
  none-kept waiting kept = record {
    lawful = kept.lawful;
    numbering = rw n_reached kept.numbering;
    returns = rw (n_reached, n_returns) kept.returns;
    waiting = rw (n_reached, waiting) kept.waiting;
    order = rw (n_reached, n_order) kept.order;
    ends = rw n_reached kept.ends;
    listed = λ k k_has on. listed-grow map number old new n_grow k (kept.listed k k_has (rw n_reached at on));
    ways = rw n_ways kept.ways;
    untold = λ i d below. absurd (omega (arith, below, new_none));
    last = rw (n_reached, n_ways, waiting) kept.last;
    before = rw n_ways kept.before;
    sent = rw (n_reached, n_sent) kept.sent;
  }

  pub none-right : (seeds : List ℕ) → AreRight map number seeds old → AreRight map number seeds new
  none-right seeds right = record {
    reached = rw n_reached right.reached;
    returns = rw n_returns right.returns;
    ways = rw n_ways right.ways;
    untold = λ k d below. absurd (omega (arith, below, new_none));
    leads = rw n_sent right.leads;
  }

  pub none-told : (n : ℕ) → AreTold map number old n 0 → AreTold map number new n 0
  none-told n told i d inside on =
      let is : get_or new.ways.items i d ≡ get_or old.ways.items i d = ap (λ xs. get_or xs i d) n_ways in
      let w = get_or old.ways.items i d in
      let was : IsOn old.returns.items w.to = subst (λ (v : Way). IsOn old.returns.items v.to) is (rw n_returns at on) in
      subst (λ (v : Way). IsDone map number new v ⊎ (Contains new.untold.items v.to ⊎ ((v.to ≡ n) × (i < 0)))) (sym is)
      (elim (told i d (rw n_ways at inside) was) [
        | inl done ↦ inl (done-grow map number old new n_grow w.from w.fall done)
        | inr rest ↦ elim rest [
          | inl there ↦ absurd (omega (arith, there.1, old_none))
          | inr before ↦ absurd (omega (arith, before.1))
        ]
      ])
