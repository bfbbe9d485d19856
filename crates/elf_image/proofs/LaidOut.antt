-- Sections of which each ends where the next begins, or before.
use Rattle.std.proofs.Common.{◌≡◌, ◌≢◌, ℕ, suc, zero, ◌+◌, ◌-◌, ◌<◌, ◌≤◌, true, false, cond, List, length, get_or, Some, None, refl, sym, ap, ◌∙◌, subst, arith, inl, inr, leb, ltb, max, min, ap₂}
use Rattle.std.specs.List.{find, All, Contains}
use Rattle.std.specs.List.Sorted.{IsPermutation, IsNonDecreasingBy, IsPartitionPoint}
use Rattle.std.proofs.lemmas.Bool.{cases_Bool, cases_order, false_from_ne_true, cond-true, cond-false, ltb-true, lt-ltb, leb-true, leb-false}
use Rattle.std.proofs.lemmas.Bool.Decides.{nat_tests}
use Rattle.std.proofs.Math.Nat.{max_comm, min_comm}
use Rattle.std.proofs.lemmas.List.{get_or_default}
use Rattle.std.proofs.lemmas.List.Folds.{list_any_none}
use Rattle.std.proofs.lemmas.List.Sorted.{IsNonDecreasingBy-from_all_adjacent, All-permutation}
use Rattle.elf_image.specs.declared.section.Section.{Section}
use Rattle.elf_image.specs.Sections.{holds_bytes}
use Rattle.elf_image.specs.FaultTests.{any_pair, shares_address}
use Rattle.elf_image.specs.Inner.AddressIndex.{IsLaidOut, HasOverhang, FindsSame}
use Rattle.elf_image.proofs.Finds.{find-at, find-none, find-cases, find-permutation}
use Rattle.elf_image.proofs.Pairs.{any_pair-at, pair-from_any_pair, any_pair-permutation}

-- a section, to read past the end of a list
abbrev pub no_section : Section
no_section = record { name = 0; kind = 0; flags = 0; address = 0; offset = 0; size = 0; link = 0; entry_size = 0 }

-- two sections at places of a list that is laid out: the first ends before the second begins
ends_before : (xs : List Section) → IsLaidOut xs → (m i j : ℕ) (d : Section) → j ≡ i + suc m → j < length xs → (get_or xs i d).address + (get_or xs i d).size ≤ (get_or xs j d).address
ends_before xs out zero i j d far within =
    let e : i + 1 ≡ j = omega arith in
    subst (λ k. (get_or xs i d).address + (get_or xs i d).size ≤ (get_or xs k d).address) e (out i d (omega arith))
ends_before xs out (suc m) i j d far within =
    let e : i + suc m + 1 ≡ j = omega arith in
    let first = ends_before xs out m i (i + suc m) d refl (omega arith) in
    let next = out (i + suc m) d (omega arith) in
    let both : (get_or xs i d).address + (get_or xs i d).size ≤ (get_or xs (i + suc m + 1) d).address = omega arith in
    subst (λ k. (get_or xs i d).address + (get_or xs i d).size ≤ (get_or xs k d).address) e both

pub end-le-start : (xs : List Section) → IsLaidOut xs → (i j : ℕ) (d : Section) → i < j → j < length xs → (get_or xs i d).address + (get_or xs i d).size ≤ (get_or xs j d).address
end-le-start xs out i j d less within = ends_before xs out (j - suc i) i j d (omega arith) within

-- its addresses rise
pub laid_out-rises : (xs : List Section) → IsLaidOut xs → IsNonDecreasingBy (λ s. s.address) xs
laid_out-rises xs out = IsNonDecreasingBy-from_all_adjacent (λ s. s.address) xs (λ k d below. omega (arith, out k d below))

-- what it means to have bytes
pub holds-true : (a n : ℕ) (s : Section) → holds_bytes a n s ≡ true → (s.address ≤ a) × (a + n ≤ s.address + s.size)
holds-true a n s h = grind (arith, nat_tests)

pub holds-from : (a n : ℕ) (s : Section) → s.address ≤ a → a + n ≤ s.address + s.size → holds_bytes a n s ≡ true
holds-from a n s start end = grind (arith, nat_tests)

pub holds-below : (a n : ℕ) (s : Section) → a < s.address → holds_bytes a n s ≡ false
holds-below a n s h = grind (arith, nat_tests)

pub holds-above : (a n : ℕ) (s : Section) → s.address + s.size < a + n → holds_bytes a n s ≡ false
holds-above a n s h = grind (arith, nat_tests)

-- two places that have the same bytes are one
pub laid_out-once : (xs : List Section) → IsLaidOut xs → (a n : ℕ) → 0 < n → (s t : Section) → Contains xs s → Contains xs t → holds_bytes a n s ≡ true → holds_bytes a n t ≡ true → s ≡ t
laid_out-once xs out a n some s t s_there t_there s_holds t_holds =
    let i = s_there.0 in
    let j = t_there.0 in
    let is_s : get_or xs i no_section ≡ s = get_or_default xs i no_section s s_there.1 ∙ s_there.2 in
    let is_t : get_or xs j no_section ≡ t = get_or_default xs j no_section t t_there.1 ∙ t_there.2 in
    let s_in = holds-true a n (get_or xs i no_section) (ap (holds_bytes a n) is_s ∙ s_holds) in
    let t_in = holds-true a n (get_or xs j no_section) (ap (holds_bytes a n) is_t ∙ t_holds) in
    elim (cases_order i j) [
      | inl same ↦ sym is_s ∙ ap (λ k. get_or xs k no_section) same ∙ is_t
      | inr other ↦ elim other [
        | inl less ↦ absurd (omega (arith, end-le-start xs out i j no_section less t_there.1))
        | inr more ↦ absurd (omega (arith, end-le-start xs out j i no_section more s_there.1))
      ]
    ]

-- a section that has the bytes is the first that has them
pub find-held : (xs : List Section) → IsLaidOut xs → (a n i : ℕ) (d : Section) → 0 < n → i < length xs → holds_bytes a n (get_or xs i d) ≡ true → find (holds_bytes a n) xs ≡ Some (get_or xs i d)
find-held xs out a n i d some within holds =
    let held = holds-true a n (get_or xs i d) holds in
    find-at (holds_bytes a n) xs i d within
    (λ k below. holds-above a n (get_or xs k d) (omega (arith, held.0, end-le-start xs out k i d below within))) holds

-- the section that is found for some bytes is found for those after them, as far as it has them
pub found-after : (xs : List Section) → IsLaidOut xs → (a n i : ℕ) (s : Section) → 0 < n → find (holds_bytes a n) xs ≡ Some s → s.address ≤ a → a + i + n ≤ s.address + s.size → find (holds_bytes (a + i) n) xs ≡ Some s
found-after xs out a n i s some found start end = elim (find-cases (holds_bytes a n) xs) [
  | inl none ↦ absurd (differ (sym none.0 ∙ found))
  | inr it ↦
      let same : it.0 ≡ s = some_same (sym it.1 ∙ found) in
      let there : Contains xs s = subst (Contains xs) same it.3 in
      let holds = holds-from (a + i) n s (omega arith) end in
      let is : get_or xs there.0 no_section ≡ s = get_or_default xs there.0 no_section s there.1 ∙ there.2 in
      find-held xs out (a + i) n there.0 no_section some there.1 (ap (holds_bytes (a + i) n) is ∙ holds) ∙ ap Some is
]
  where
    differ : {t : Section} → None ≡ Some t → ⊥
    differ e = cc

    some_same : {t u : Section} → Some t ≡ Some u → t ≡ u
    some_same e = cc

-- the section before the first that begins past the address is the only one that may have the bytes
pub find-laid_out : (xs : List Section) → IsLaidOut xs → (a n i : ℕ) (d : Section) → 0 < n → i < length xs → ((k : ℕ) → suc i ≤ k → k < length xs → a < (get_or xs k d).address) → (get_or xs i d).address ≤ a → find (holds_bytes a n) xs ≡ cond (holds_bytes a n (get_or xs i d)) (Some (get_or xs i d)) None
find-laid_out xs out a n i d some within after here =
    elim (cases_Bool (holds_bytes a n (get_or xs i d))) [
      | inl passes ↦
          find-held xs out a n i d some within passes
          ∙ sym (cond-true _ (Some (get_or xs i d)) None passes)
      | inr fails ↦
          find-none (holds_bytes a n) xs (list_any_none (holds_bytes a n) xs (λ k e below. others k e below fails))
          ∙ sym (cond-false _ (Some (get_or xs i d)) None fails)
    ]
  where
    others : (k : ℕ) (e : Section) → k < length xs → holds_bytes a n (get_or xs i d) ≡ false → holds_bytes a n (get_or xs k e) ≡ false
    others k e below fails =
        let same = get_or_default xs k e d below in
        elim (cases_order k i) [
          | inl at ↦ ap (holds_bytes a n) (same ∙ ap (λ j. get_or xs j d) at) ∙ fails
          | inr other ↦ ap (holds_bytes a n) same ∙ elim other [
            | inl less ↦ holds-above a n (get_or xs k d) (omega (arith, end-le-start xs out k i d less within))
            | inr more ↦ holds-below a n (get_or xs k d) (after k more below)
          ]
        ]

-- where the first begins past the address, none has the bytes
pub find-before_all : (xs : List Section) (a n : ℕ) → ((k : ℕ) (d : Section) → k < length xs → a < (get_or xs k d).address) → find (holds_bytes a n) xs ≡ None
find-before_all xs a n after = find-none (holds_bytes a n) xs (list_any_none (holds_bytes a n) xs (λ k d below. holds-below a n (get_or xs k d) (after k d below)))

-- what it means to share an address
pub shares-true : (s t : Section) → shares_address s t ≡ true → (s.address < t.address + t.size) × (t.address < s.address + s.size)
shares-true s t h = let less = ltb-true (max s.address t.address) (min (s.address + s.size) (t.address + t.size)) h in (omega arith, omega arith)

shares-from : (s t : Section) → s.address ≤ t.address → t.address < s.address + s.size → 0 < t.size → shares_address s t ≡ true
shares-from s t in_order over some = lt-ltb (max s.address t.address) (min (s.address + s.size) (t.address + t.size)) (omega arith)

-- sections that are laid out share no address
pub laid_out-apart : (xs : List Section) → IsLaidOut xs → any_pair shares_address xs ≡ false
laid_out-apart xs out =
    false_from_ne_true (any_pair shares_address xs) (λ some.
    let p = pair-from_any_pair shares_address no_section xs some in
    let met = shares-true (get_or xs p.first no_section) (get_or xs p.second no_section) p.holds in
    elim (cases_order p.first p.second) [
      | inl same ↦ p.differ same
      | inr other ↦ elim other [
        | inl less ↦ absurd (omega (arith, end-le-start xs out p.first p.second no_section less p.second_within))
        | inr more ↦ absurd (omega (arith, end-le-start xs out p.second p.first no_section more p.first_within))
      ]
    ])

-- sections in order, none of them empty, of which one ends past the next: the two share an address
pub overhang-pair : (xs : List Section) → IsNonDecreasingBy (λ s. s.address) xs → All (λ s. 0 < s.size) xs → HasOverhang xs → any_pair shares_address xs ≡ true
overhang-pair xs rises filled over =
    let k = over.0 in
    let s = get_or xs k no_section in
    let t = get_or xs (k + 1) no_section in
    let in_order : s.address ≤ t.address = rises k (k + 1) no_section (omega arith) over.1 in
    let past : t.address < s.address + s.size = over.2 no_section in
    let some : 0 < t.size = filled (k + 1) no_section over.1 in
    any_pair-at shares_address no_section xs k (k + 1) (omega arith) over.1 (shares-from s t in_order past some)

pub shares-symmetric : (s t : Section) → shares_address s t ≡ shares_address t s
shares-symmetric s t = ap₂ (λ m n. ltb m n) (max_comm s.address t.address) (min_comm (s.address + s.size) (t.address + t.size))

-- the order of sections that are laid out does not matter to a search, nor to whether two share an address
pub find-sorted : (xs ys : List Section) → IsPermutation xs ys → IsLaidOut ys → FindsSame ys xs
find-sorted xs ys moved out a n some = find-permutation (holds_bytes a n) xs ys moved (laid_out-once ys out a n some)

pub pairs-sorted : (xs ys : List Section) → IsPermutation xs ys → any_pair shares_address ys ≡ any_pair shares_address xs
pairs-sorted = any_pair-permutation shares_address no_section shares-symmetric

-- what a search finds that splits the sections at an address: nothing where all begin past it ..
pub find-none_before : (xs : List Section) (a n i : ℕ) → i ≡ 0 → IsPartitionPoint (λ (s : Section). leb s.address a ≡ true) (λ s. leb s.address a ≡ false) xs i → find (holds_bytes a n) xs ≡ None
find-none_before xs a n i none split =
    find-before_all xs a n (λ k d below. leb-false (get_or xs k d).address a (split.1 k d (omega arith) below))

-- .. and else the last that does not, where it has the bytes
pub find-last_before : (xs : List Section) → IsLaidOut xs → (a n i : ℕ) → 0 < n → i ≢ 0 → i ≤ length xs → IsPartitionPoint (λ (s : Section). leb s.address a ≡ true) (λ s. leb s.address a ≡ false) xs i → find (holds_bytes a n) xs ≡ cond (holds_bytes a n (get_or xs (i - 1) no_section)) (Some (get_or xs (i - 1) no_section)) None
find-last_before xs out a n i some there within split =
    find-laid_out xs out a n (i - 1) no_section some (omega arith)
    (λ k after below. leb-false (get_or xs k no_section).address a (split.1 k no_section (omega arith) below))
    (leb-true (get_or xs (i - 1) no_section).address a (split.0 (i - 1) no_section (omega arith) (omega arith)))

-- what is known of sections once they are sorted: xs as given, ys in order, and the two lists that were read
module _ (xs ys given read : List Section) (is_given : given ≡ xs) (is_read : read ≡ ys) (moved : IsPermutation given ys) where
  sorted_of : IsPermutation xs ys
  sorted_of = subst (λ zs. IsPermutation zs ys) is_given moved

  pub prepared-finds : IsLaidOut read → FindsSame ys xs
  prepared-finds out = find-sorted xs ys sorted_of (subst IsLaidOut is_read out)

  pub prepared-apart : IsLaidOut read → false ≡ any_pair shares_address xs
  prepared-apart out = sym (laid_out-apart ys (subst IsLaidOut is_read out)) ∙ pairs-sorted xs ys sorted_of

  pub prepared-overlap : IsNonDecreasingBy (λ s. s.address) ys → All (λ s. 0 < s.size) xs → HasOverhang read → true ≡ any_pair shares_address xs
  prepared-overlap rises filled over =
      sym (overhang-pair ys rises (All-permutation (λ s. 0 < s.size) xs ys sorted_of filled) (subst HasOverhang is_read over))
      ∙ pairs-sorted xs ys sorted_of
