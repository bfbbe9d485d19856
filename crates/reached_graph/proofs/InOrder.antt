-- Edges each of which comes before the next one, and edges some of which are put into order.
use Rattle.std.proofs.Common.{◌≡◌, ℕ, zero, suc, Result, Ok, Err, is_ok, if◌then◌else◌, ◌+◌, ◌-◌, ◌<◌, List, ◌++◌, length, take, drop, get_or, sym, ◌∙◌, subst, inl, inr, arith}
use Rattle.std.specs.Prelude.{◌↔◌, AllPairs, Contains, OnOk}
use Rattle.std.proofs.lemmas.List.{take-append-drop}
use Rattle.std.proofs.lemmas.List.Elements.{Contains-append_cases, Contains-append_left, Contains-append_right}
use Rattle.cfg_model.specs.declared.graph.Edge.{Edge}
use Rattle.cfg_model.specs.Graph.Graph.{EdgeBefore}

before_on : (a b c : Edge) → EdgeBefore a b → EdgeBefore b c → EdgeBefore a c
before_on a b c (inl x) (inl y) = inl (omega (arith, x, y))
before_on a b c (inl x) (inr y) = inl (omega (arith, x, y.0))
before_on a b c (inr x) (inl y) = inl (omega (arith, x.0, y))
before_on a b c (inr (same, inl x)) (inr (also, inl y)) = inr (same ∙ also, inl (omega (arith, x, y)))
before_on a b c (inr (same, inl x)) (inr (also, inr y)) = inr (same ∙ also, inl (omega (arith, x, y.0)))
before_on a b c (inr (same, inr x)) (inr (also, inl y)) = inr (same ∙ also, inl (omega (arith, x.0, y)))
before_on a b c (inr (same, inr x)) (inr (also, inr y)) = inr (same ∙ also, inr (x.0 ∙ y.0, omega (arith, x.1, y.1)))

module _ (edges : List Edge) (next : (k : ℕ) (d : Edge) → k + 1 < length edges → EdgeBefore (get_or edges k d) (get_or edges (k + 1) d)) where
  ahead : (n i : ℕ) (d : Edge) → i + 1 + n < length edges → EdgeBefore (get_or edges i d) (get_or edges (i + 1 + n) d)
  ahead zero i d within = subst (λ j. EdgeBefore (get_or edges i d) (get_or edges j d)) (omega arith) (next i d (omega (arith, within)))
  ahead (suc n) i d within =
      before_on (get_or edges i d) (get_or edges (i + 1 + n) d) (get_or edges (i + 1 + suc n) d) (ahead n i d (omega (arith, within)))
      (subst (λ j. EdgeBefore (get_or edges (i + 1 + n) d) (get_or edges j d)) (omega arith) (next (i + 1 + n) d (omega (arith, within))))

  pub all_before : AllPairs EdgeBefore edges
  all_before i j d less within =
      let is : i + 1 + (j - i - 1) ≡ j = omega (arith, less) in
      subst (λ k. EdgeBefore (get_or edges i d) (get_or edges k d)) is (ahead (j - i - 1) i d (omega (arith, less, within)))

-- the last ones of a list are put into another order
pub last_moved : (xs last : List Edge) (n : ℕ) → ((x : Edge) → Contains last x ↔ Contains (drop n xs) x) → (x : Edge) → Contains (take n xs ++ last) x ↔ Contains xs x
last_moved xs last n same x = (
  λ there. subst (λ (ys : List Edge). Contains ys x) (take-append-drop n xs) (elim (Contains-append_cases (take n xs) last x there) [
    | inl first ↦ Contains-append_left (take n xs) (drop n xs) x first
    | inr behind ↦ Contains-append_right (take n xs) (drop n xs) x ((same x).0 behind)
  ]),
  λ there. elim (Contains-append_cases (take n xs) (drop n xs) x (subst (λ (ys : List Edge). Contains ys x) (sym (take-append-drop n xs)) there)) [
    | inl first ↦ Contains-append_left (take n xs) last x first
    | inr behind ↦ Contains-append_right (take n xs) last x ((same x).1 behind)
  ],
)

-- the same of a list that is extended by them if there is room
pub moved_if : {T E : Type 0} (r : Result T E) (xs last : List Edge) (n : ℕ) (new : List Edge) → ((x : Edge) → Contains last x ↔ Contains (drop n xs) x)
    → new ≡ (if is_ok r then take n xs ++ last else take n xs) → OnOk r ((x : Edge) → Contains new x ↔ Contains xs x)
moved_if (Ok t) xs last n new same is = λ x. subst (λ (ys : List Edge). Contains ys x ↔ Contains xs x) (sym is) (last_moved xs last n same x)
moved_if (Err e) xs last n new same is = tt
