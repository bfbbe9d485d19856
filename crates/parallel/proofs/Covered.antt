-- Each address lies in one of the gaps that bounds leave, and in no other where they do not fall.
use Rattle.std.proofs.Common.{ℕ, zero, suc, ◌<◌, ◌≤◌, List, [], ◌∷◌, length, get_or, Option, Some, None, ⊎_elim, arith, subst}
use Rattle.std.specs.Prelude.{slice_get}
use Rattle.std.specs.List.Sorted.{IsNonDecreasing}
use Rattle.std.proofs.lemmas.Bool.{cases_lt}
use Rattle.std.proofs.lemmas.Option.{slice_get-get_or}
use Rattle.parallel.specs.Ranges.{IsAbove, IsUpTo, IsIn}
use Rattle.parallel.specs.Gaps.{bound_before, gap}

-- ---- each address lies in a gap

-- the bound in front of a gap, where the first gap has one too
abbrev front : Option ℕ → List ℕ → ℕ → Option ℕ
front after bounds zero = after
front after bounds (suc i) = slice_get bounds i

front_moved : (after : Option ℕ) (b : ℕ) (bounds : List ℕ) (i a : ℕ) → IsAbove (front (Some b) bounds i) a → IsAbove (front after (b ∷ bounds) (suc i)) a
front_moved after b bounds zero a above = above
front_moved after b bounds (suc i) a above = above

abbrev InGapFrom : Option ℕ → List ℕ → ℕ → Type 0
InGapFrom after bounds a = (i : ℕ) × (i ≤ length bounds) × IsAbove (front after bounds i) a × IsUpTo (slice_get bounds i) a

in_gap_from : (after : Option ℕ) (bounds : List ℕ) (a : ℕ) → IsAbove after a → InGapFrom after bounds a
in_gap_from after [] a above = (0, omega arith, above, tt)
in_gap_from after (b ∷ bounds) a above =
    ⊎_elim
    (λ (high : b < a). let rest = in_gap_from (Some b) bounds a high in (suc rest.0, omega (arith, rest.1), front_moved after b bounds rest.0 a rest.2, rest.3))
    (λ (low : a ≤ b). (0, omega arith, above, low))
    (cases_lt b a)

front_none : (bounds : List ℕ) (i a : ℕ) → IsAbove (front None bounds i) a → IsAbove (bound_before bounds i) a
front_none bounds zero a above = above
front_none bounds (suc i) a above = above

pub in_some_gap : (bounds : List ℕ) (a : ℕ) → (i : ℕ) × (i ≤ length bounds) × IsIn (gap bounds i) a
in_some_gap bounds a = let at = in_gap_from None bounds a tt in (at.0, at.1, (front_none bounds at.0 a at.2, at.3))

-- ---- and in one alone

pub one_gap : (bounds : List ℕ) → IsNonDecreasing bounds → (i j a : ℕ) → i < j → j ≤ length bounds → IsIn (gap bounds i) a → IsIn (gap bounds j) a → ⊥
one_gap bounds rising i zero a less within low high = absurd (omega arith)
one_gap bounds rising i (suc j) a less within low high =
    let last : a ≤ get_or bounds i 0 = subst (λ (o : Option ℕ). IsUpTo o a) (slice_get-get_or bounds i 0 (omega arith)) low.1 in
    let before : get_or bounds j 0 < a = subst (λ (o : Option ℕ). IsAbove o a) (slice_get-get_or bounds j 0 (omega arith)) high.0 in
    let up : get_or bounds i 0 ≤ get_or bounds j 0 = rising i j 0 (omega arith) (omega arith) in
    absurd (omega arith)
