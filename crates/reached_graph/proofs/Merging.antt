-- Two lists of addresses that rise, merged run by run.
use Rattle.std.proofs.Common.{◌≡◌, ◌⊎◌, ℕ, ◌+◌, ◌-◌, ◌<◌, ◌≤◌, List, [], ◌∷◌, ◌++◌, length, get_or, take, drop, sym, ap, ◌∙◌, subst, inl, inr, arith}
use Rattle.std.specs.Prelude.{◌↔◌, Contains}
use Rattle.std.specs.List.{AllPairs}
use Rattle.std.specs.List.Sorted.{IsStrictlyIncreasing}
use Rattle.std.proofs.lemmas.Bool.{cases_lt}
use Rattle.std.proofs.lemmas.List.{get_or-append-add, get_or-drop, get_or-take, get_or_append_left, get_or_default, length-append, length-drop, length-take, take_all, take_more}
use Rattle.std.proofs.lemmas.List.Elements.{Contains-append_cases, Contains-append_left, Contains-append_right, Contains-get_or, Contains-push, Contains-push_cases}

-- Each address comes before those after it.
abbrev pub Rises : List ℕ → Type 0
Rises xs = AllPairs (λ x y. x < y) xs

pub increasing : (xs : List ℕ) → Rises xs → IsStrictlyIncreasing xs
increasing xs rise k within = rise k (k + 1) 0 (omega arith) within

-- two lists, the first all below the second
pub rises_both : (xs zs : List ℕ) → Rises xs → Rises zs → ((x z : ℕ) → Contains xs x → Contains zs z → x < z) → Rises (xs ++ zs)
rises_both xs zs first second below i j d less within = elim (cases_lt j (length xs)) [
  | inl left ↦ rw (get_or_append_left xs zs d j left, get_or_append_left xs zs d i (omega (arith, less, left))) (first i j d less left)
  | inr right ↦
      let k : ℕ = j - length xs in
      let is : j ≡ length xs + k = omega arith in
      let inside : k < length zs = omega (arith, within, length-append xs zs) in
      let there : get_or (xs ++ zs) j d ≡ get_or zs k d = ap (λ n. get_or (xs ++ zs) n d) is ∙ get_or-append-add xs zs k d in
      elim (cases_lt i (length xs)) [
        | inl left ↦ rw (get_or_append_left xs zs d i left, there) (below (get_or xs i d) (get_or zs k d) (Contains-get_or xs i d left) (Contains-get_or zs k d inside))
        | inr too ↦
            let h : ℕ = i - length xs in
            let from : i ≡ length xs + h = omega arith in
            rw (ap (λ n. get_or (xs ++ zs) n d) from ∙ get_or-append-add xs zs h d, there) (second h k d (omega (arith, less, from, is)) inside)
      ]
]

-- those at the places from p up to q
abbrev pub run : List ℕ → ℕ → ℕ → List ℕ
run xs p q = take (q - p) (drop p xs)

module _ (xs : List ℕ) (p q : ℕ) (up : p ≤ q) (low : q ≤ length xs) where
  pub run_length : length (run xs p q) ≡ q - p
  run_length = length-take (q - p) (drop p xs) ∙ omega (arith, length-drop p xs)

  pub run_at : (k d : ℕ) → k < q - p → get_or (run xs p q) k d ≡ get_or xs (p + k) d
  run_at k d less = get_or-take (q - p) (drop p xs) k d less ∙ get_or-drop p xs k d

  -- what the run holds
  run_has : (x : ℕ) → Contains (run xs p q) x → (k : ℕ) × (p ≤ k) × (k < q) × (get_or xs k x ≡ x)
  run_has x there =
      let less : there.0 < q - p = omega (arith, there.1, run_length) in
      (p + there.0, omega arith, omega arith, sym (run_at there.0 x less) ∙ there.2)

  has_run : (x k : ℕ) → p ≤ k → k < q → get_or xs k x ≡ x → Contains (run xs p q) x
  has_run x k above below is =
      let h : ℕ = k - p in
      (h, omega (arith, run_length), run_at h x (omega arith) ∙ ap (λ n. get_or xs n x) (omega arith) ∙ is)

-- what the first so many hold
taken_has : (xs : List ℕ) (p x : ℕ) → Contains (take p xs) x → (k : ℕ) × (k < p) × (k < length xs) × (get_or xs k x ≡ x)
taken_has xs p x there =
    let size : length (take p xs) ≤ length xs = omega (arith, length-take p xs) in
    let less : there.0 < p = omega (arith, there.1, length-take p xs) in
    (there.0, less, omega (arith, there.1, size), sym (get_or-take p xs there.0 x less) ∙ there.2)

has_taken : (xs : List ℕ) (p x k : ℕ) → k < p → k < length xs → get_or xs k x ≡ x → Contains (take p xs) x
has_taken xs p x k less within is = (k, omega (arith, length-take p xs, less, within), get_or-take p xs k x less ∙ is)

-- The first p of the one list and the first j of the other, merged. All are below what is left.
pub record AreMerged (xs ys : List ℕ) (p j : ℕ) (all : List ℕ) : Type 0 where
  pub within : p ≤ length xs
  pub rise : Rises all
  pub exact : (x : ℕ) → Contains all x ↔ Contains (take p xs) x ⊎ Contains (take j ys) x
  pub below : (x k : ℕ) → Contains all x → p ≤ k → k < length xs → x < get_or xs k 0
  pub under : (y k : ℕ) → Contains all y → j ≤ k → k < length ys → y < get_or ys k 0

module _ (xs ys : List ℕ) where
  pub none_merged : AreMerged xs ys 0 0 []
  none_merged = record {
    within = omega arith;
    rise = λ i j d less within. absurd (omega (arith, within));
    exact = λ x. (λ there. absurd (omega (arith, there.1)), λ there. elim there [ inl none ↦ absurd (omega (arith, none.1)) | inr none ↦ absurd (omega (arith, none.1)) ]);
    below = λ x k there. absurd (omega (arith, there.1));
    under = λ y k there. absurd (omega (arith, there.1));
  }

  module _ (rise : Rises xs) (p j : ℕ) (all : List ℕ) (are : AreMerged xs ys p j all) where
    -- a run of the first list, all below what is left of the second
    pub run_merged : (q : ℕ) → p ≤ q → q ≤ length xs → ((k m : ℕ) → p ≤ k → k < q → j ≤ m → m < length ys → get_or xs k 0 < get_or ys m 0) → AreMerged xs ys q j (all ++ run xs p q)
    run_merged q up low clear = record {
      within = low;
      rise = rises_both all (run xs p q) are.rise
          (λ h k d less within.
          let inside : k < q - p = omega (arith, within, run_length xs p q up low) in
          rw (run_at xs p q up low h d (omega (arith, less, inside)), run_at xs p q up low k d inside) (rise (p + h) (p + k) d (omega (arith, less)) (omega (arith, inside, low))))
          (λ x z there other.
          let at = run_has xs p q up low z other in
          let inside : at.0 < length xs = omega (arith, at.2, low) in
          omega (arith, are.below x at.0 there at.1 inside, get_or_default xs at.0 0 z inside ∙ at.3));
      exact = λ x. (
        λ there. elim (Contains-append_cases all (run xs p q) x there) [
          | inl was ↦ elim ((are.exact x).0 was) [
            | inl first ↦ let at = taken_has xs p x first in inl (has_taken xs q x at.0 (omega (arith, at.1, up)) at.2 at.3)
            | inr second ↦ inr second
          ]
          | inr now ↦ let at = run_has xs p q up low x now in inl (has_taken xs q x at.0 at.2 (omega (arith, at.2, low)) at.3)
        ],
        λ either. elim either [
          | inl first ↦
              let at = taken_has xs q x first in
              elim (cases_lt at.0 p) [
                | inl less ↦ Contains-append_left all (run xs p q) x ((are.exact x).1 (inl (has_taken xs p x at.0 less at.2 at.3)))
                | inr past ↦ Contains-append_right all (run xs p q) x (has_run xs p q up low x at.0 past at.1 at.3)
              ]
          | inr second ↦ Contains-append_left all (run xs p q) x ((are.exact x).1 (inr second))
        ],
      );
      below = λ x k there past within. elim (Contains-append_cases all (run xs p q) x there) [
        | inl was ↦ are.below x k was (omega (arith, up, past)) within
        | inr now ↦
            let at = run_has xs p q up low x now in
            let inside : at.0 < length xs = omega (arith, at.2, low) in
            omega (arith, rise at.0 k 0 (omega (arith, at.2, past)) within, get_or_default xs at.0 0 x inside ∙ at.3)
      ];
      under = λ y k there past within. elim (Contains-append_cases all (run xs p q) y there) [
        | inl was ↦ are.under y k was past within
        | inr now ↦
            let at = run_has xs p q up low y now in
            let inside : at.0 < length xs = omega (arith, at.2, low) in
            omega (arith, clear at.0 k at.1 at.2 past within, get_or_default xs at.0 0 y inside ∙ at.3)
      ];
    }

    -- one of the second list, below what is left of the first
    pub one_merged : Rises ys → j < length ys → ((k : ℕ) → p ≤ k → k < length xs → get_or ys j 0 < get_or xs k 0) → AreMerged xs ys p (j + 1) (all ++ get_or ys j 0 ∷ [])
    one_merged rise_ys inside clear =
        let a : ℕ = get_or ys j 0 in
        record {
          within = are.within;
          rise = rises_both all (a ∷ []) are.rise (λ h k d less within. absurd (omega (arith, less, within)))
              (λ x z there other. elim (Contains-push_cases [] a z other) [
                | inl none ↦ absurd (omega (arith, none.1))
                | inr e ↦ omega (arith, are.under x j there (omega arith) inside, e)
              ]);
          exact = λ x. (
            λ there. elim (Contains-push_cases all a x there) [
              | inl was ↦ elim ((are.exact x).0 was) [
                | inl first ↦ inl first
                | inr second ↦ inr (subst (λ (zs : List ℕ). Contains zs x) (sym (take_more ys j 0 inside)) (Contains-append_left (take j ys) (a ∷ []) x second))
              ]
              | inr e ↦ inr (subst (λ (zs : List ℕ). Contains zs x) (sym (take_more ys j 0 inside)) (subst (Contains (take j ys ++ a ∷ [])) e (Contains-push (take j ys) a)))
            ],
            λ either. elim either [
              | inl first ↦ Contains-append_left all (a ∷ []) x ((are.exact x).1 (inl first))
              | inr second ↦ elim (Contains-push_cases (take j ys) a x (subst (λ (zs : List ℕ). Contains zs x) (take_more ys j 0 inside) second)) [
                | inl was ↦ Contains-append_left all (a ∷ []) x ((are.exact x).1 (inr was))
                | inr e ↦ subst (Contains (all ++ a ∷ [])) e (Contains-push all a)
              ]
            ],
          );
          below = λ x k there past within. elim (Contains-push_cases all a x there) [
            | inl was ↦ are.below x k was past within
            | inr e ↦ omega (arith, clear k past within, e)
          ];
          under = λ y k there past within. elim (Contains-push_cases all a y there) [
            | inl was ↦ are.under y k was (omega (arith, past)) within
            | inr e ↦ omega (arith, rise_ys j k 0 (omega (arith, past)) within, e)
          ];
        }

  -- a run of the first list and one of the second, which is in none of the first
  pub join_merged : Rises xs → Rises ys → (p q j : ℕ) (all : List ℕ) → AreMerged xs ys p j all → p ≤ q → q ≤ length xs → j < length ys → ((k : ℕ) → p ≤ k → k < q → get_or xs k 0 < get_or ys j 0) → (q < length xs → get_or ys j 0 ≤ get_or xs q 0)
      → (Contains xs (get_or ys j 0) → ⊥) → AreMerged xs ys q (j + 1) ((all ++ run xs p q) ++ get_or ys j 0 ∷ [])
  join_merged rise_xs rise_ys p q j all are up low inside under over apart =
      let a : ℕ = get_or ys j 0 in
      let above : (m : ℕ) → j ≤ m → m < length ys → a ≤ get_or ys m 0 = λ m past within. elim (cases_lt j m) [
        | inl later ↦ omega (arith, rise_ys j m 0 later within)
        | inr same ↦ let is : j ≡ m = omega (arith, past, same) in omega (arith, ap (λ n. get_or ys n 0) is)
      ] in
      one_merged rise_xs q j (all ++ run xs p q) (run_merged rise_xs p j all are q up low (λ k m from below past within. omega (arith, under k from below, above m past within))) rise_ys inside
      (λ k past within. elim (cases_lt a (get_or xs k 0)) [
        | inl less ↦ less
        | inr high ↦ elim (cases_lt q k) [
          | inl later ↦ absurd (omega (arith, over (omega (arith, later, within)), rise_xs q k 0 later within, high))
          | inr same ↦
              let is : q ≡ k = omega (arith, past, same) in
              let first : a ≤ get_or xs q 0 = over (omega (arith, is, within)) in
              absurd (apart (k, within, get_or_default xs k a 0 within ∙ omega (arith, first, high, ap (λ n. get_or xs n 0) is)))
        ]
      ])

  -- the last run ends it: then it is all of both
  module _ (rise_xs : Rises xs) (p q j : ℕ) (all : List ℕ) (are : AreMerged xs ys p j all) (last : q ≡ length xs) (done : length ys ≤ j) where
    whole : AreMerged xs ys q j (all ++ run xs p q)
    whole = run_merged rise_xs p j all are q (omega (arith, are.within, last)) (omega (arith, last)) (λ k m from below past within. absurd (omega (arith, past, within, done)))

    pub whole_rise : IsStrictlyIncreasing (all ++ run xs p q)
    whole_rise = increasing (all ++ run xs p q) whole.rise

    pub whole_exact : (x : ℕ) → Contains (all ++ run xs p q) x ↔ Contains xs x ⊎ Contains ys x
    whole_exact x = (
      λ there. elim ((whole.exact x).0 there) [
        | inl first ↦ inl (subst (λ (zs : List ℕ). Contains zs x) (take_all q xs (omega (arith, last))) first)
        | inr second ↦ inr (subst (λ (zs : List ℕ). Contains zs x) (take_all j ys done) second)
      ],
      λ either. elim either [
        | inl first ↦ (whole.exact x).1 (inl (subst (λ (zs : List ℕ). Contains zs x) (sym (take_all q xs (omega (arith, last)))) first))
        | inr second ↦ (whole.exact x).1 (inr (subst (λ (zs : List ℕ). Contains zs x) (sym (take_all j ys done)) second))
      ],
    )

-- Those of the first so many of which two things hold, and of one more.
module _ (xs : List ℕ) (Low High : ℕ → Type 0) (i : ℕ) (items : List ℕ) (within : i < length xs) (exact : (x : ℕ) → Contains items x ↔ Contains (take i xs) x × Low x × High x) where
  abbrev here : ℕ
  here = get_or xs i 0

  taken_more : (x : ℕ) → Contains (take (i + 1) xs) x → Contains (take i xs) x ⊎ (here ≡ x)
  taken_more x there = Contains-push_cases (take i xs) here x (subst (λ (zs : List ℕ). Contains zs x) (take_more xs i 0 within) there)

  more_taken : (x : ℕ) → Contains (take i xs) x → Contains (take (i + 1) xs) x
  more_taken x there = subst (λ (zs : List ℕ). Contains zs x) (sym (take_more xs i 0 within)) (Contains-append_left (take i xs) (here ∷ []) x there)

  pub kept_same : (Low here → High here → ⊥) → (x : ℕ) → Contains items x ↔ Contains (take (i + 1) xs) x × Low x × High x
  kept_same none x = (
    λ there. let is = (exact x).0 there in (more_taken x is.0, is.1, is.2),
    λ is. elim (taken_more x is.0) [
      | inl was ↦ (exact x).1 (was, is.1, is.2)
      | inr e ↦ absurd (none (subst Low (sym e) is.1) (subst High (sym e) is.2))
    ],
  )

  pub kept_more : Low here → High here → (x : ℕ) → Contains (items ++ here ∷ []) x ↔ Contains (take (i + 1) xs) x × Low x × High x
  kept_more low high x = (
    λ there. elim (Contains-push_cases items here x there) [
      | inl was ↦ let is = (exact x).0 was in (more_taken x is.0, is.1, is.2)
      | inr e ↦ (subst (λ (zs : List ℕ). Contains zs x) (sym (take_more xs i 0 within)) (subst (Contains (take i xs ++ here ∷ [])) e (Contains-push (take i xs) here)), subst Low e low, subst High e high)
    ],
    λ is. elim (taken_more x is.0) [
      | inl was ↦ Contains-append_left items (here ∷ []) x ((exact x).1 (was, is.1, is.2))
      | inr e ↦ subst (Contains (items ++ here ∷ [])) e (Contains-push items here)
    ],
  )

  pub kept_rises : Rises xs → Rises items → Rises (items ++ here ∷ [])
  kept_rises rise_xs rise =
      rises_both items (here ∷ []) rise (λ h k d less inside. absurd (omega (arith, less, inside)))
      (λ x z there other.
      let at = taken_has xs i x ((exact x).0 there).0 in
      elim (Contains-push_cases [] here z other) [
        | inl none ↦ absurd (omega (arith, none.1))
        | inr e ↦ omega (arith, rise_xs at.0 i 0 at.1 within, get_or_default xs at.0 0 x at.2 ∙ at.3, e)
      ])
