-- What a split and a join do to the shares of all seats.
use Rattle.std.proofs.Common.{◌≡◌, ◌≢◌, ℕ, zero, suc, ◌+◌, ◌^◌, ◌≤◌, List, [], ◌∷◌, ◌++◌, Some, set, refl, sym, ap, ◌∙◌, arith}
use Rattle.std.specs.Prelude.{slice_get}
use Rattle.std.proofs.lemmas.Option.{slice_get_within}
use Rattle.board.specs.Locks.Share.{Share, nothing, half, both, total, IsWhole, IsSpent, AddUpToOne}
use Rattle.board.proofs.Locks.Parts.{parts_at, parts_in, parts_at-both, parts_at-half, parts_at-total, whole_at, none_at, same_weight}

parts_in-append : (n : ℕ) (ss us : List Share) → parts_in n (ss ++ us) ≡ parts_in n ss + parts_in n us
parts_in-append n [] us = omega arith
parts_in-append n (s ∷ ss) us = omega (arith, parts_in-append n ss us)

head_is : (x s : Share) → Some x ≡ Some s → x ≡ s
head_is x s e = search e

parts_in-set : (n : ℕ) (ss : List Share) (i : ℕ) (s t : Share) → slice_get ss i ≡ Some s → parts_in n (set ss i t) + parts_at n s ≡ parts_in n ss + parts_at n t
parts_in-set n [] i s t e = absurd (omega (arith, slice_get_within [] i s e))
parts_in-set n (x ∷ xs) zero s t e = omega (arith, ap (parts_at n) (head_is x s e))
parts_in-set n (x ∷ xs) (suc i) s t e = omega (arith, parts_in-set n xs i s t e)

at_most : (n : ℕ) (ss : List Share) (i : ℕ) (s : Share) → slice_get ss i ≡ Some s → parts_at n s ≤ parts_in n ss
at_most n [] i s e = absurd (omega (arith, slice_get_within [] i s e))
at_most n (x ∷ xs) zero s e = omega (arith, ap (parts_at n) (head_is x s e))
at_most n (x ∷ xs) (suc i) s e = omega (arith, at_most n xs i s e)

get-set_other : (ss : List Share) (i j : ℕ) (s : Share) → j ≢ i → slice_get (set ss i s) j ≡ slice_get ss j
get-set_other [] i j s n = refl
get-set_other (x ∷ xs) zero zero s n = absurd (n refl)
get-set_other (x ∷ xs) zero (suc j) s n = refl
get-set_other (x ∷ xs) (suc i) zero s n = refl
get-set_other (x ∷ xs) (suc i) (suc j) s n = get-set_other xs i j s (λ e. n (ap suc e))

pub splits : (ss : List Share) (i : ℕ) (s : Share) → slice_get ss i ≡ Some s → AddUpToOne ss → AddUpToOne (set ss i (half s) ++ half s ∷ [])
splits ss i s at = same_weight (s.power + 1) ss (set ss i (half s) ++ half s ∷ [])
    (λ n le. omega (arith, parts_in-append n (set ss i (half s)) (half s ∷ []), parts_in-set n ss i s (half s) at, parts_at-half n s le))

pub joins : (ss : List Share) (i j : ℕ) (s t : Share) → slice_get ss i ≡ Some s → slice_get ss j ≡ Some t → j ≢ i → AddUpToOne ss → AddUpToOne (set (set ss i (both s t)) j nothing)
joins ss i j s t at there apart = same_weight (s.power + t.power) ss (set (set ss i (both s t)) j nothing)
    (λ n le.
    let still = get-set_other ss i j (both s t) apart ∙ there in
    omega (arith, parts_in-set n ss i s (both s t) at, parts_in-set n (set ss i (both s t)) j t nothing still, parts_at-both n s t le))

pub leaves_nothing : (ss : List Share) (i j : ℕ) (s t : Share) → slice_get ss i ≡ Some s → slice_get ss j ≡ Some t → j ≢ i → AddUpToOne ss → IsWhole s → IsSpent t
leaves_nothing ss i j s t at there apart all one =
    let n : ℕ = (total ss).power + s.power in
    let sum : parts_in n ss ≡ 2 ^ n = sym (parts_at-total n ss (omega arith)) ∙ whole_at n (total ss) (omega arith) all in
    let mine : parts_at n s ≡ 2 ^ n = whole_at n s (omega arith) one in
    let others = parts_in-set n ss i s nothing at in
    let still = get-set_other ss i j nothing apart ∙ there in
    let part = at_most n (set ss i nothing) j t still in
    none_at n t (omega (arith, sum, mine, others, part))
