-- Numbers that rise, each once: their elements determine them.
use Rattle.std.proofs.Common.{◌≡◌, ℕ, zero, suc, ◌<◌, List, [], ◌∷◌, length, get_or, refl, sym, ap₂, subst, arith, inl, inr, add-one}
use Rattle.std.specs.Prelude.{◌⊎◌}
use Rattle.std.specs.List.{Contains, AllPairs}
use Rattle.std.specs.List.Sorted.{IsStrictlyIncreasing}
use Rattle.std.proofs.lemmas.Bool.{cases_order, lt-ltb, le-ltb, eq-eqb, ne_eqb}
use Rattle.std.proofs.lemmas.List.Kept.{AllPairs-from_increasing}
use Rattle.elf_image.specs.Seeds.{with_number, rising}
use Rattle.elf_symbols.proofs.Members.{no-member, Contains-here, Contains-later, Contains-cons_cases}

-- x is below each element
abbrev IsBelow : ℕ → List ℕ → Type 0
IsBelow x xs = (y : ℕ) → Contains xs y → x < y

-- each element is below all later ones
abbrev pub Ascends : List ℕ → Type 0
Ascends [] = Unit {0}
Ascends (x ∷ xs) = IsBelow x xs × Ascends xs

from_pairs : (xs : List ℕ) → AllPairs (λ x y. x < y) xs → Ascends xs
from_pairs [] pairs = tt
from_pairs (x ∷ xs) pairs = (
  λ y there. subst (λ z. x < z) there.2 (pairs 0 (suc there.0) y (omega arith) (omega (arith, there.1))),
  from_pairs xs (λ i j d less within. pairs (suc i) (suc j) d (omega arith) (omega arith)),
)

pub ascends-from_increasing : (xs : List ℕ) → IsStrictlyIncreasing xs → Ascends xs
ascends-from_increasing xs up = from_pairs xs (AllPairs-from_increasing xs up)

next : (xs : List ℕ) → Ascends xs → (k : ℕ) → suc k < length xs → get_or xs k 0 < get_or xs (suc k) 0
next [] up k within = absurd (omega arith)
next (x ∷ xs) up zero within = up.0 (get_or xs 0 0) (0, omega arith, at_first xs (omega arith))
  where
    at_first : (xs : List ℕ) → 0 < length xs → get_or xs 0 (get_or xs 0 0) ≡ get_or xs 0 0
    at_first [] some = refl
    at_first (x ∷ xs) some = refl
next (x ∷ xs) up (suc k) within = next xs up.1 k (omega arith)

pub increasing-from_ascends : (xs : List ℕ) → Ascends xs → IsStrictlyIncreasing xs
increasing-from_ascends xs up k within = rw add-one (next xs up k (omega arith))

-- two such lists with the same elements are the same
pub ascends-same : (xs ys : List ℕ) → Ascends xs → Ascends ys → ((z : ℕ) → Contains xs z → Contains ys z) → ((z : ℕ) → Contains ys z → Contains xs z) → xs ≡ ys
ascends-same [] [] a b to fro = refl
ascends-same [] (y ∷ ys) a b to fro = absurd (no-member y (fro y (Contains-here y ys)))
ascends-same (x ∷ xs) [] a b to fro = absurd (no-member x (to x (Contains-here x xs)))
ascends-same (x ∷ xs) (y ∷ ys) a b to fro =
    let same : x ≡ y = first_same (Contains-cons_cases y ys x (to x (Contains-here x xs))) (Contains-cons_cases x xs y (fro y (Contains-here y ys))) in
    ap₂ (λ z zs. z ∷ zs) same
    (ascends-same xs ys a.1 b.1
    (λ z there. rest x y z ys (a.0 z there) (sym same) (Contains-cons_cases y ys z (to z (Contains-later x xs z there))))
    (λ z there. rest y x z xs (b.0 z there) same (Contains-cons_cases x xs z (fro z (Contains-later y ys z there)))))
  where
    first_same : (y ≡ x) ⊎ Contains ys x → (x ≡ y) ⊎ Contains xs y → x ≡ y
    first_same (inl e) o = sym e
    first_same (inr there) (inl e) = e
    first_same (inr there) (inr here) = let up = b.0 x there in let down = a.0 y here in absurd (omega arith)

    rest : (u v z : ℕ) (zs : List ℕ) → u < z → v ≡ u → (v ≡ z) ⊎ Contains zs z → Contains zs z
    rest u v z zs less e (inl is) = absurd (omega arith)
    rest u v z zs less e (inr there) = there

-- one more number in its place
with_less : (a x : ℕ) (xs : List ℕ) → a < x → with_number a (x ∷ xs) ≡ a ∷ x ∷ xs
with_less a x xs less = rw (lt-ltb a x less) refl

with_same : (a x : ℕ) (xs : List ℕ) → a ≡ x → with_number a (x ∷ xs) ≡ x ∷ xs
with_same a x xs same = rw (le-ltb a x (omega arith), eq-eqb a x same) refl

with_more : (a x : ℕ) (xs : List ℕ) → x < a → with_number a (x ∷ xs) ≡ x ∷ with_number a xs
with_more a x xs more = rw (le-ltb a x (omega arith), ne_eqb a x (λ e. omega arith)) refl

with_here : (a : ℕ) (xs : List ℕ) → Contains (with_number a xs) a
with_here a [] = Contains-here a []
with_here a (x ∷ xs) = elim (cases_order a x) [
  | inl same ↦ rw (with_same a x xs same) (0, omega arith, sym same)
  | inr other ↦ elim other [
    | inl less ↦ rw (with_less a x xs less) (Contains-here a (x ∷ xs))
    | inr more ↦ rw (with_more a x xs more) (Contains-later x (with_number a xs) a (with_here a xs))
  ]
]

with_later : (a : ℕ) (xs : List ℕ) (z : ℕ) → Contains xs z → Contains (with_number a xs) z
with_later a [] z there = absurd (no-member z there)
with_later a (x ∷ xs) z there = elim (cases_order a x) [
  | inl same ↦ rw (with_same a x xs same) there
  | inr other ↦ elim other [
    | inl less ↦ rw (with_less a x xs less) (Contains-later a (x ∷ xs) z there)
    | inr more ↦ rw (with_more a x xs more) (elim (Contains-cons_cases x xs z there) [
      | inl is ↦ (0, omega arith, is)
      | inr later ↦ Contains-later x (with_number a xs) z (with_later a xs z later)
    ])
  ]
]

with_cases : (a : ℕ) (xs : List ℕ) (z : ℕ) → Contains (with_number a xs) z → (a ≡ z) ⊎ Contains xs z
with_cases a [] z there = Contains-cons_cases a [] z there
with_cases a (x ∷ xs) z there = elim (cases_order a x) [
  | inl same ↦ inr (rw (with_same a x xs same) at there)
  | inr other ↦ elim other [
    | inl less ↦ Contains-cons_cases a (x ∷ xs) z (rw (with_less a x xs less) at there)
    | inr more ↦ elim (Contains-cons_cases x (with_number a xs) z (rw (with_more a x xs more) at there)) [
      | inl is ↦ inr (0, omega arith, is)
      | inr later ↦ elim (with_cases a xs z later) [
        | inl is ↦ inl is
        | inr old ↦ inr (Contains-later x xs z old)
      ]
    ]
  ]
]

with_ascends : (a : ℕ) (xs : List ℕ) → Ascends xs → Ascends (with_number a xs)
with_ascends a [] up = (λ y there. absurd (no-member y there), tt)
with_ascends a (x ∷ xs) up = elim (cases_order a x) [
  | inl same ↦ rw (with_same a x xs same) up
  | inr other ↦ elim other [
    | inl less ↦ rw (with_less a x xs less) (
      λ y there. elim (Contains-cons_cases x xs y there) [
        | inl is ↦ omega arith
        | inr later ↦ let above = up.0 y later in omega arith
      ],
      up,
    )
    | inr more ↦ rw (with_more a x xs more) (
      λ y there. elim (with_cases a xs y there) [
        | inl is ↦ omega arith
        | inr later ↦ up.0 y later
      ],
      with_ascends a xs up.1,
    )
  ]
]

-- the numbers of a list, rising
pub rising-ascends : (xs : List ℕ) → Ascends (rising xs)
rising-ascends [] = tt
rising-ascends (x ∷ xs) = with_ascends x (rising xs) (rising-ascends xs)

pub rising-keeps : (xs : List ℕ) (z : ℕ) → Contains xs z → Contains (rising xs) z
rising-keeps [] z there = there
rising-keeps (x ∷ xs) z there = elim (Contains-cons_cases x xs z there) [
  | inl is ↦ subst (Contains (with_number x (rising xs))) is (with_here x (rising xs))
  | inr later ↦ with_later x (rising xs) z (rising-keeps xs z later)
]

pub rising-adds_none : (xs : List ℕ) (z : ℕ) → Contains (rising xs) z → Contains xs z
rising-adds_none [] z there = there
rising-adds_none (x ∷ xs) z there = elim (with_cases x (rising xs) z there) [
  | inl is ↦ (0, omega arith, is)
  | inr later ↦ Contains-later x xs z (rising-adds_none xs z later)
]
