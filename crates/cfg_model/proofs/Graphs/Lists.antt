-- Lists in order that have the same items are equal.
use Rattle.std.proofs.Common.{◌≡◌, ℕ, zero, suc, ◌+◌, ◌<◌, ◌⊎◌, ◌≤◌, ◌↔◌, List, [], ◌∷◌, ◌++◌, length, get_or, take, Some, Result, Ok, Err, IsTrue, is_ok, eqb, refl, sym, ap, ◌∙◌, subst, inl, inr, ⊎_elim, arith}
use Rattle.std.specs.List.{AllPairs, AllZip, Contains, dedup, slice_get}
use Rattle.std.specs.List.Sorted.{IsStrictlyIncreasing, IsBinarySearchResult, IsPermutation}
use Rattle.std.specs.Ordering.{nat_cmp}
use Rattle.std.proofs.lemmas.Bool.{cases_lt, false≢true}
use Rattle.std.proofs.lemmas.List.{get_or_default, take_more, take_all}
use Rattle.std.proofs.lemmas.Option.{slice_get_within, get_or_from_slice_get}
use Rattle.std.proofs.lemmas.List.Sorted.{searched, Contains-permutation, IsPermutation-sym}
use Rattle.std.proofs.lemmas.List.Kept.{Contains-dedup_nat, Contains-from_dedup}
use Rattle.std.proofs.lemmas.Map.Keys.{non_decreasing_from_sorted, sorted_from_strictly_increasing}
use Rattle.std.proofs.lemmas.List.Elements.{Contains-append_cases, Contains-append_left, Contains-append_right, Contains-push_cases, Contains-push, Contains-get_or}
use Rattle.cfg_model.specs.Graph.Listing.{Lists}

pub Contains-cons_cases : {X : Type 0} (x : X) (xs : List X) (z : X) → Contains (x ∷ xs) z → (x ≡ z) ⊎ Contains xs z
Contains-cons_cases x xs z h =
    ⊎_elim
    (λ front. ⊎_elim (λ none. absurd (let lt : none.0 < 0 = none.1 in omega arith)) (λ same. inl same) (Contains-push_cases [] x z front))
    (λ back. inr back)
    (Contains-append_cases (x ∷ []) xs z h)

pub Contains-here : {X : Type 0} (x : X) (xs : List X) → Contains (x ∷ xs) x
Contains-here x xs = Contains-append_left (x ∷ []) xs x (Contains-push [] x)

pub Contains-later : {X : Type 0} (x : X) (xs : List X) (z : X) → Contains xs z → Contains (x ∷ xs) z
Contains-later x xs z h = Contains-append_right (x ∷ []) xs z h

pub Contains-none : {X : Type 0} (z : X) → Contains [] z → ⊥
Contains-none z h = let lt : h.0 < 0 = h.1 in omega arith

-- the first of a list in order comes before each later one
pub AllPairs-head : {X : Type 0} (R : X → X → Type 0) (x : X) (xs : List X) (z : X) → AllPairs R (x ∷ xs) → Contains xs z → R x z
AllPairs-head R x xs z pairs h = subst (R x) h.2 (pairs 0 (suc h.0) z (omega arith) (let lt : h.0 < length xs = h.1 in omega arith))

pub AllPairs-tail : {X : Type 0} (R : X → X → Type 0) (x : X) (xs : List X) → AllPairs R (x ∷ xs) → AllPairs R xs
AllPairs-tail R x xs pairs = λ i j d below within. pairs (suc i) (suc j) d (omega arith) (omega arith)

-- no two things come each before the other
abbrev pub IsAsymmetric : {X : Type 0} → (X → X → Type 0) → Type 0
IsAsymmetric {X} R = (x y : X) → R x y → R y x → ⊥

-- each item of the one list is an item of the other
abbrev pub IsWithin : {X : Type 0} → List X → List X → Type 0
IsWithin {X} xs ys = (z : X) → Contains xs z → Contains ys z

-- the first items of two lists in order with the same items
pub same_head : {X : Type 0} (R : X → X → Type 0) → IsAsymmetric R → (x : X) (xs : List X) (y : X) (ys : List X) → AllPairs R (x ∷ xs) → AllPairs R (y ∷ ys) → Contains (y ∷ ys) x → Contains (x ∷ xs) y → x ≡ y
same_head R apart x xs y ys p q h i =
    ⊎_elim
    (λ same. sym same)
    (λ later. ⊎_elim (λ same. same) (λ after. absurd (apart x y (AllPairs-head R x xs y p after) (AllPairs-head R y ys x q later))) (Contains-cons_cases x xs y i))
    (Contains-cons_cases y ys x h)

-- what is left of them behind the first has the same items too
pub within_tail : {X : Type 0} (R : X → X → Type 0) → IsAsymmetric R → (x : X) (xs : List X) (y : X) (ys : List X) → AllPairs R (x ∷ xs) → x ≡ y → IsWithin (x ∷ xs) (y ∷ ys) → IsWithin xs ys
within_tail R apart x xs y ys p same h z later =
    ⊎_elim
    (λ is. let before = AllPairs-head R x xs z p later in let itself : R x x = subst (R x) (sym (same ∙ is)) before in absurd (apart x x itself itself))
    (λ found. found)
    (Contains-cons_cases y ys z (h z (Contains-later x xs z later)))

pub same_lists : {X : Type 0} (R : X → X → Type 0) → IsAsymmetric R → (xs ys : List X) → AllPairs R xs → AllPairs R ys → IsWithin xs ys → IsWithin ys xs → xs ≡ ys
same_lists R apart [] [] p q h i = refl
same_lists R apart [] (y ∷ ys) p q h i = absurd (Contains-none y (i y (Contains-here y ys)))
same_lists R apart (x ∷ xs) [] p q h i = absurd (Contains-none x (h x (Contains-here x xs)))
same_lists R apart (x ∷ xs) (y ∷ ys) p q h i =
    let same : x ≡ y = same_head R apart x xs y ys p q (h x (Contains-here x xs)) (i y (Contains-here y ys)) in
    let rest : xs ≡ ys = same_lists R apart xs ys (AllPairs-tail R x xs p) (AllPairs-tail R y ys q) (within_tail R apart x xs y ys p same h) (within_tail R apart y ys x xs q (sym same) i) in
    cc

-- two lists of exactly what holds, in order, are equal
pub one_listing : {X : Type 0} (Before : X → X → Type 0) (Holds : X → Type 0) → IsAsymmetric Before → (xs ys : List X) → Lists Before Holds xs → Lists Before Holds ys → xs ≡ ys
one_listing Before Holds apart xs ys a b = same_lists Before apart xs ys a.in_order b.in_order (λ z h. b.complete z (a.sound z h)) (λ z h. a.complete z (b.sound z h))

not_there : (xs : List ℕ) (a i : ℕ) → Contains xs a → ((k : ℕ) → k < i → get_or xs k 0 < a) → ((k : ℕ) → i ≤ k → k < length xs → a < get_or xs k 0) → ⊥
not_there xs a i h below above =
    let is : get_or xs h.0 0 ≡ a = get_or_default xs h.0 0 a h.1 ∙ h.2 in
    ⊎_elim
    (λ lt. let b : get_or xs h.0 0 < a = below h.0 lt in omega arith)
    (λ ge. let b : a < get_or xs h.0 0 = above h.0 ge h.1 in omega arith)
    (cases_lt h.0 i)

-- what a binary search says of a list that rises
pub found_iff : (xs : List ℕ) (a : ℕ) (r : Result ℕ ℕ) → IsStrictlyIncreasing xs → IsBinarySearchResult (λ y. nat_cmp y a) xs r → IsTrue (is_ok r) ↔ Contains xs a
found_iff xs a (Ok i) rises says =
    let at = searched xs a (Ok i) says (λ k j. non_decreasing_from_sorted xs (sorted_from_strictly_increasing xs rises) k j 0) in
    (λ h. subst (Contains xs) at.1 (Contains-get_or xs i 0 at.0), λ h. refl)
found_iff xs a (Err i) rises says =
    let at = searched xs a (Err i) says (λ k j. non_decreasing_from_sorted xs (sorted_from_strictly_increasing xs rises) k j 0) in
    (λ h. absurd (false≢true h), λ h. absurd (not_there xs a i h at.1 at.2))

-- a sort and a `dedup` keep the items
pub same_after_dedup : (xs ys zs : List ℕ) → IsPermutation xs ys → zs ≡ dedup eqb ys → (a : ℕ) → Contains zs a ↔ Contains xs a
same_after_dedup xs ys zs moves is a = (
  λ h. Contains-permutation ys xs a (IsPermutation-sym xs ys moves) (Contains-from_dedup eqb ys a (subst (λ l. Contains l a) is h)),
  λ h. subst (λ l. Contains l a) (sym is) (Contains-dedup_nat ys a (Contains-permutation xs ys a moves h)),
)

-- two lists side by side

pub zip_push : {A B : Type 0} (R : A → B → Type 0) (xs : List A) (ys : List B) (x : A) (y : B) → AllZip R xs ys → R x y → AllZip R (xs ++ x ∷ []) (ys ++ y ∷ [])
zip_push R [] [] x y h r = (r, tt)
zip_push R [] (b ∷ ys) x y h r = absurd h
zip_push R (a ∷ xs) [] x y h r = absurd h
zip_push R (a ∷ xs) (b ∷ ys) x y h r = (h.0, zip_push R xs ys x y h.1 r)

pub zip_length : {A B : Type 0} (R : A → B → Type 0) (xs : List A) (ys : List B) → AllZip R xs ys → length xs ≡ length ys
zip_length R [] [] h = refl
zip_length R [] (b ∷ ys) h = absurd h
zip_length R (a ∷ xs) [] h = absurd h
zip_length R (a ∷ xs) (b ∷ ys) h = ap suc (zip_length R xs ys h.1)

pub zip_at : {A B : Type 0} (R : A → B → Type 0) (xs : List A) (ys : List B) (i : ℕ) (d : A) (e : B) → AllZip R xs ys → i < length xs → R (get_or xs i d) (get_or ys i e)
zip_at R [] [] i d e h within = absurd (omega arith)
zip_at R [] (b ∷ ys) i d e h within = absurd h
zip_at R (a ∷ xs) [] i d e h within = absurd h
zip_at R (a ∷ xs) (b ∷ ys) zero d e h within = h.0
zip_at R (a ∷ xs) (b ∷ ys) (suc i) d e h within = zip_at R xs ys i d e h.1 (omega arith)

-- a step of a loop over the first list, and its end
pub zip_more : {A B : Type 0} (R : A → B → Type 0) (xs : List A) (i : ℕ) (x : A) (ys zs : List B) (y : B) → slice_get xs i ≡ Some x → AllZip R (take i xs) ys → zs ≡ ys ++ y ∷ [] → R x y → AllZip R (take (i + 1) xs) zs
zip_more R xs i x ys zs y at zip is r =
    let whole : take (i + 1) xs ≡ take i xs ++ x ∷ [] = take_more xs i x (slice_get_within xs i x at) ∙ ap (λ z. take i xs ++ z ∷ []) (get_or_from_slice_get xs i x x at) in
    subst (λ l. AllZip R l zs) (sym whole) (subst (AllZip R (take i xs ++ x ∷ [])) (sym is) (zip_push R (take i xs) ys x y zip r))

pub zip_all : {A B : Type 0} (R : A → B → Type 0) (xs : List A) (n : ℕ) (ys : List B) → length xs ≤ n → AllZip R (take n xs) ys → AllZip R xs ys
zip_all R xs n ys long zip = subst (λ l. AllZip R l ys) (take_all n xs long) zip
