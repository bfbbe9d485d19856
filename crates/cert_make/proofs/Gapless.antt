-- Numbers without gaps: if none of them lies above a missing number that is below their count, all
-- lie below their count.
use Rattle.std.proofs.Common.{◌≡◌, ℕ, zero, suc, ◌+◌, ◌<◌, ◌≤◌, ◌⊎◌, cond, ltb, List, [], ◌∷◌, length, get_or, ap, arith, inl, inr}
use Rattle.std.specs.Prelude.{All, Contains}
use Rattle.std.proofs.lemmas.Bool.{cases_eq, cases_lt, lt-ltb, le-ltb}
use Rattle.std.proofs.lemmas.List.Elements.{All-nil, All-cons, All-weaker}

-- 1 if the first of two numbers lies below the second, and else 0
abbrev one_below : ℕ → ℕ → ℕ
one_below x j = cond (ltb x j) 1 0

-- how many of the numbers lie below this one
abbrev count_below : ℕ → List ℕ → ℕ
count_below j [] = 0
count_below j (x ∷ xs) = one_below x j + count_below j xs

below_or_not : (x j : ℕ) → ((x < j) × (one_below x j ≡ 1)) ⊎ ((j ≤ x) × (one_below x j ≡ 0))
below_or_not x j = elim (cases_lt x j) [
  | inl lt ↦ inl (lt, ap (λ b. cond b 1 0) (lt-ltb x j lt))
  | inr le ↦ inr (le, ap (λ b. cond b 1 0) (le-ltb x j le))
]

-- at most all do; if it is all, each does
count_most : (j : ℕ) (xs : List ℕ) → count_below j xs ≤ length xs
count_most j [] = omega arith
count_most j (x ∷ xs) =
    let rest = count_most j xs in
    elim (below_or_not x j) [ inl one ↦ omega (arith, one.1, rest) | inr none ↦ omega (arith, none.1, rest) ]

all_below : (j : ℕ) (xs : List ℕ) → length xs ≤ count_below j xs → All (λ r. r < j) xs
all_below j [] many = All-nil (λ r. r < j)
all_below j (x ∷ xs) many =
    let most = count_most j xs in
    elim (below_or_not x j) [
      | inl one ↦ All-cons (λ r. r < j) x xs one.0 (all_below j xs (omega (arith, many, one.1)))
      | inr none ↦ absurd (omega (arith, many, none.1, most))
    ]

-- no fewer lie below the next number, and one more if this number is one of them
count_up : (j : ℕ) (xs : List ℕ) → count_below j xs ≤ count_below (suc j) xs
count_up j [] = omega arith
count_up j (x ∷ xs) =
    let rest = count_up j xs in
    elim (below_or_not x j) [
      | inl one ↦ elim (below_or_not x (suc j)) [ inl other ↦ omega (arith, one.1, other.1, rest) | inr other ↦ absurd (omega (arith, one.0, other.0)) ]
      | inr none ↦ omega (arith, none.1, rest)
    ]

first_or_other : (x : ℕ) (xs : List ℕ) (j k : ℕ) → k < length (x ∷ xs) → get_or (x ∷ xs) k j ≡ j → (x ≡ j) ⊎ Contains xs j
first_or_other x xs j zero lt is = inl is
first_or_other x xs j (suc k) lt is = inr (k, omega (arith, lt), is)

count_more : (j : ℕ) (xs : List ℕ) → (count_below j xs < count_below (suc j) xs) ⊎ (Contains xs j → ⊥)
count_more j [] = inr (λ has. absurd (omega (arith, has.1)))
count_more j (x ∷ xs) = elim (cases_eq x j) [
  | inl same ↦
      let up = count_up j xs in
      elim (below_or_not x j) [
        | inl one ↦ absurd (omega (arith, same, one.0))
        | inr none ↦ elim (below_or_not x (suc j)) [ inl other ↦ inl (omega (arith, none.1, other.1, up)) | inr other ↦ absurd (omega (arith, same, other.0)) ]
      ]
  | inr apart ↦ elim (count_more j xs) [
    | inl more ↦ elim (below_or_not x j) [
      | inl one ↦ elim (below_or_not x (suc j)) [ inl other ↦ inl (omega (arith, one.1, other.1, more)) | inr other ↦ absurd (omega (arith, one.0, other.0)) ]
      | inr none ↦ inl (omega (arith, none.1, more))
    ]
    | inr none ↦ inr (λ has. elim (first_or_other x xs j has.0 has.1 has.2) [ inl is ↦ apart is | inr other ↦ none other ])
  ]
]

-- as many as this number lie below it, or all
many_or_all : (xs : List ℕ) (j : ℕ) → ((i : ℕ) → i < j → (Contains xs i → ⊥) → All (λ r. r < i) xs) → (j ≤ count_below j xs) ⊎ All (λ r. r < j) xs
many_or_all xs zero gap = inl (omega arith)
many_or_all xs (suc j) gap = elim (many_or_all xs j (λ i lt. gap i (omega (arith, lt)))) [
  | inl many ↦ elim (count_more j xs) [
    | inl more ↦ inl (omega (arith, many, more))
    | inr none ↦ inr (All-weaker (λ r. r < j) (λ r. r < suc j) (λ r lt. omega (arith, lt)) xs (gap j (omega arith) none))
  ]
  | inr all ↦ inr (All-weaker (λ r. r < j) (λ r. r < suc j) (λ r lt. omega (arith, lt)) xs all)
]

pub all_below_count : (xs : List ℕ) → ((i : ℕ) → i < length xs → (Contains xs i → ⊥) → All (λ r. r < i) xs) → All (λ r. r < length xs) xs
all_below_count xs gap = elim (many_or_all xs (length xs) gap) [
  | inl many ↦ all_below (length xs) xs many
  | inr all ↦ all
]
