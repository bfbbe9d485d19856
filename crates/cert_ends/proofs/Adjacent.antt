-- Lists that rise from each line to the next rise from each line to all behind it.
use Rattle.std.proofs.Common.{◌≡◌, ℕ, ◌+◌, ◌<◌, ◌≤◌, Bool, true, false, List, length, get_or, map, ltb, refl, sym, arith}
use Rattle.std.specs.Prelude.{◌↔◌, IsTrue, AllPairs}
use Rattle.std.specs.List.{IsAllAdjacentAnswer}
use Rattle.std.specs.List.Sorted.{IsStrictlyIncreasing}
use Rattle.std.proofs.lemmas.Bool.{ltb-true, ltb-false}
use Rattle.std.proofs.lemmas.List.{get_or-map, length-map}
use Rattle.std.proofs.lemmas.List.Kept.{AllPairs-from_increasing}

pub false_true : {P : Type 0} → ◌≡◌ {A = Bool} false true → P
false_true e = cc

module _ {X : Type 0} (key : X → ℕ) (xs : List X) (none : X) where
  abbrev Pairs : Type 0
  Pairs = AllPairs (λ x y. key x < key y) xs

  pub rise_on : IsStrictlyIncreasing (map key xs) → Pairs
  rise_on up i j d lt within =
      let within_map : j < length (map key xs) = omega (arith, within, length-map xs key) in
      let less : get_or (map key xs) i 0 < get_or (map key xs) j 0 = AllPairs-from_increasing (map key xs) up i j 0 lt within_map in
      let left : get_or (map key xs) i 0 ≡ key (get_or xs i d) = get_or-map key xs i d 0 (omega arith) in
      let right : get_or (map key xs) j 0 ≡ key (get_or xs j d) = get_or-map key xs j d 0 within in
      omega arith

  pub rise_next : Pairs → IsStrictlyIncreasing (map key xs)
  rise_next up k within =
      let inside : k + 1 < length xs = omega (arith, within, length-map xs key) in
      let less : key (get_or xs k none) < key (get_or xs (k + 1) none) = up k (k + 1) none (omega arith) inside in
      let left : get_or (map key xs) k 0 ≡ key (get_or xs k none) = get_or-map key xs k none 0 (omega arith) in
      let right : get_or (map key xs) (k + 1) 0 ≡ key (get_or xs (k + 1) none) = get_or-map key xs (k + 1) none 0 inside in
      omega arith

  next_rises : ((k : ℕ) (d : X) → k + 1 < length xs → key (get_or xs k d) < key (get_or xs (k + 1) d)) → IsStrictlyIncreasing (map key xs)
  next_rises up k within =
      let inside : k + 1 < length xs = omega (arith, within, length-map xs key) in
      let less : key (get_or xs k none) < key (get_or xs (k + 1) none) = up k none inside in
      let left : get_or (map key xs) k 0 ≡ key (get_or xs k none) = get_or-map key xs k none 0 (omega arith) in
      let right : get_or (map key xs) (k + 1) 0 ≡ key (get_or xs (k + 1) none) = get_or-map key xs (k + 1) none 0 inside in
      omega arith

  -- what a test of each line and the next tells
  pub told : (b : Bool) → IsAllAdjacentAnswer (λ x y r. r ≡ ltb (key x) (key y)) xs b → IsTrue b ↔ Pairs
  told true h = (λ e. rise_on (next_rises (λ k d within. ltb-true _ _ (sym (h k d within)))), λ up. refl)
  told false h = (
    λ e. false_true e,
    λ up.
        let less : key (get_or xs h.0 none) < key (get_or xs (h.0 + 1) none) = up h.0 (h.0 + 1) none (omega arith) h.1 in
        let more : key (get_or xs (h.0 + 1) none) ≤ key (get_or xs h.0 none) = ltb-false _ _ (sym (h.2 none)) in
        absurd (omega arith),
  )
