-- A list some of whose items were put into another order has the same items, and gained the same.
use Rattle.std.proofs.Common.{◌≡◌, ℕ, List, ◌++◌, length, take, drop, sym, ap, ◌∙◌, subst}
use Rattle.std.specs.List.{Contains}
use Rattle.std.specs.List.Sorted.{IsPermutation}
use Rattle.std.specs.Prelude.{◌↔◌}
use Rattle.std.proofs.Math.Seq.{take-append_seam}
use Rattle.std.proofs.lemmas.List.Sorted.{Contains-permutation, IsPermutation-sym, IsPermutation-put_mid, length_permutation}
use borrow.Rule.Slice.PartMut.{mid_of, put_mid}
use Rattle.cfg_model.specs.Graph.Listing.{Gains}

pub gains_moved : {X : Type 0} (xs ys zs : List X) (P : X → Type 0) → ((x : X) → Contains zs x ↔ Contains ys x) → Gains xs ys P → Gains xs zs P
gains_moved xs ys zs P same adds = record {
  kept = λ x h. (same x).1 (adds.kept x h);
  added = λ x h. (same x).1 (adds.added x h);
  nothing_else = λ x h. adds.nothing_else x ((same x).0 h);
}

-- A vector's items, n in number, after k of them from place a on were sorted through a slice of them all.
pub part_sorted : {X : Type 0} (items held sorted : List X) (a k n : ℕ) → held ≡ items → n ≡ length held → IsPermutation (mid_of a k held) sorted
    → (x : X) → Contains (take n (put_mid a k held sorted ++ drop (length (put_mid a k held sorted)) items)) x ↔ Contains items x
part_sorted {X} items held sorted a k n is long moves x =
    let whole = put_mid a k held sorted in
    let rest = drop (length whole) items in
    let moved : IsPermutation held whole = IsPermutation-put_mid a k held sorted moves in
    let size : n ≡ length whole = long ∙ sym (length_permutation held whole moved) in
    let same : take n (whole ++ rest) ≡ whole = ap (λ m. take m (whole ++ rest)) size ∙ take-append_seam whole rest in (
      λ h. subst (λ (xs : List X). Contains xs x) is
          (Contains-permutation whole held x (IsPermutation-sym held whole moved) (subst (λ (xs : List X). Contains xs x) same h)),
      λ h. subst (λ (xs : List X). Contains xs x) (sym same)
          (Contains-permutation held whole x moved (subst (λ (xs : List X). Contains xs x) (sym is) h)),
    )
