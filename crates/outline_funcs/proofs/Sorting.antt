-- Numbers that are apart, sorted, and the starts of the blocks with these numbers.
use Rattle.std.proofs.Common.{◌≡◌, ◌≢◌, ◌↔◌, ℕ, ◌+◌, ◌<◌, List, length, get_or, eqb, Result, Ok, Err, IfOk, sym, ◌∙◌, subst, ⊎_elim, arith}
use Rattle.std.specs.List.{AllPairs, AllZip, Contains, IsDistinct}
use Rattle.std.specs.List.Sorted.{IsNonDecreasing, IsPermutation, IsStrictlyIncreasing}
use Rattle.std.proofs.lemmas.Bool.{cases_eq, eq-eqb, ne_eqb}
use Rattle.std.proofs.lemmas.List.{get_or_default}
use Rattle.std.proofs.lemmas.List.Elements.{Contains-get_or}
use Rattle.std.proofs.lemmas.List.Sorted.{Contains-permutation, IsPermutation-sym}
use Rattle.std.proofs.lemmas.Map.Keys.{IsDistinct-from_apart, IsDistinct-IsPermutation, IsStrictlyIncreasing-from_distinct}
use Rattle.std.proofs.lemmas.List.Kept.{AllPairs-from_increasing}
use Rattle.cfg_model.specs.Graph.Listing.{Lists}
use Rattle.cfg_model.proofs.Graphs.Lists.{zip_at, zip_length}
use Rattle.outline_funcs.specs.declared.exits.Exits.{Exits}
use Rattle.outline_funcs.specs.Inner.Blocks.{HasBlockAt, IsNumber}
use Rattle.outline_funcs.specs.Inner.Exits.{AreExits, InBodyBy}
use Rattle.outline_funcs.proofs.Following.{body_listed}
use Rattle.outline_funcs.proofs.Numbers.{none, number_of_block, starts_rise, one_start}

-- what a good answer says, said in other words
pub starts_weaker : {X E : Type 0} (r : Result X E) {P Q : X → Type 0} → ((x : X) → P x → Q x) → IfOk r P → IfOk r Q
starts_weaker (Ok x) there p = there x p
starts_weaker (Err e) there p = tt

eqb-flips : (a b : ℕ) → eqb a b ≡ eqb b a
eqb-flips a b = ⊎_elim (λ e. eq-eqb a b e ∙ sym (eq-eqb b a (sym e))) (λ ne. ne_eqb a b ne ∙ sym (ne_eqb b a (λ e. ne (sym e)))) (cases_eq a b)

pub sorted_rise : (order sorted : List ℕ) → AllPairs ◌≢◌ order → IsPermutation order sorted → IsNonDecreasing sorted → IsStrictlyIncreasing sorted
sorted_rise order sorted apart moves up =
    let distinct : IsDistinct eqb order = IsDistinct-from_apart eqb order (λ i j d below within. ne_eqb _ _ (apart i j d below within)) in
    IsStrictlyIncreasing-from_distinct sorted up (IsDistinct-IsPermutation eqb eqb-flips order sorted moves distinct)

module _ (exits : Exits) (are : AreExits exits) (entry : ℕ) (there : HasBlockAt exits.blocks.now entry) (order sorted body : List ℕ)
    (apart : AllPairs ◌≢◌ order) (moves : IsPermutation order sorted) (up : IsNonDecreasing sorted)
    (exact : (i a : ℕ) → IsNumber exits.blocks.now i a → Contains order i ↔ InBodyBy exits entry a) (zip : AllZip (IsNumber exits.blocks.now) sorted body) where
  long : length sorted ≡ length body
  long = zip_length (IsNumber exits.blocks.now) sorted body zip

  numbered : (k : ℕ) → k < length sorted → IsNumber exits.blocks.now (get_or sorted k 0) (get_or body k 0)
  numbered k lt = zip_at (IsNumber exits.blocks.now) sorted body k 0 0 zip lt

  starts_increase : IsStrictlyIncreasing body
  starts_increase = λ k lt.
      let same : length sorted ≡ length body = long in
      let next : k + 1 < length sorted = omega arith in
      starts_rise exits.blocks.now none _ _ _ _ are.in_order (numbered k (omega arith)) (numbered (k + 1) next) (sorted_rise order sorted apart moves up k next)

  pub body_of_numbers : Lists ◌<◌ (InBodyBy exits entry) body
  body_of_numbers = record {
    in_order = AllPairs-from_increasing body starts_increase;
    sound = λ a h.
        let same : length sorted ≡ length body = long in
        let at : h.0 < length body = h.1 in
        let lt : h.0 < length sorted = omega arith in
        let is : get_or body h.0 0 ≡ a = get_or_default body h.0 0 a at ∙ h.2 in
        let in_order = Contains-permutation sorted order (get_or sorted h.0 0) (IsPermutation-sym order sorted moves) (Contains-get_or sorted h.0 0 lt) in
        (exact (get_or sorted h.0 0) a (subst (IsNumber exits.blocks.now (get_or sorted h.0 0)) is (numbered h.0 lt))).0 in_order;
    complete = λ a inside.
        let same : length sorted ≡ length body = long in
        let at = number_of_block exits.blocks.now a (body_listed are there inside) in
        let c : Contains sorted at.0 = Contains-permutation order sorted at.0 moves ((exact at.0 a at.1).1 inside) in
        let lt : c.0 < length sorted = c.1 in
        let within : c.0 < length body = omega arith in
        let is : get_or sorted c.0 0 ≡ at.0 = get_or_default sorted c.0 0 at.0 lt ∙ c.2 in
        let here : IsNumber exits.blocks.now at.0 (get_or body c.0 0) = subst (λ n. IsNumber exits.blocks.now n (get_or body c.0 0)) is (numbered c.0 lt) in
        (c.0, within, get_or_default body c.0 a 0 within ∙ one_start exits.blocks.now none at.0 (get_or body c.0 0) a here at.1);
  }
