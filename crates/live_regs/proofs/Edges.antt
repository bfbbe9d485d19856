-- The edges that leave one address stand side by side in a list in order.
use Rattle.std.proofs.Common.{◌≡◌, ◌↔◌, ℕ, ◌+◌, ◌-◌, ◌<◌, ◌≤◌, List, length, take, drop, get_or, sym, ap, ◌∙◌, inl, inr, ⊎_elim, arith, length-drop}
use Rattle.std.specs.List.{AllPairs, Contains}
use Rattle.std.specs.List.Sorted.{IsNonDecreasingBy}
use Rattle.std.proofs.lemmas.Bool.{cases_eq, cases_lt}
use Rattle.std.proofs.lemmas.List.{get_or-take, get_or-drop, length-take-le}
use Rattle.cfg_model.specs.declared.graph.Edge.{Edge}
use Rattle.cfg_model.specs.Graph.Graph.{EdgeBefore}
use Rattle.live_regs.specs.Noted.{AreBetween}
use Rattle.live_regs.specs.Inner.{IsFirst}

abbrev pub RiseByFrom : List Edge → Type 0
RiseByFrom edges = IsNonDecreasingBy (λ (e : Edge). e.from) edges

from_le : (a b : Edge) → EdgeBefore a b → a.from ≤ b.from
from_le a b h = ⊎_elim (λ lt. omega arith) (λ same. let e : a.from ≡ b.from = same.0 in omega arith) h

pub rises_by_from : (edges : List Edge) → AllPairs EdgeBefore edges → RiseByFrom edges
rises_by_from edges pairs = λ i j d le within.
    elim (cases_eq i j) [
      | inl e ↦ let same : (get_or edges i d).from ≡ (get_or edges j d).from = ap (λ k. (get_or edges k d).from) e in omega arith
      | inr ne ↦ from_le (get_or edges i d) (get_or edges j d) (pairs i j d (omega arith) within)
    ]

-- the edge before the place and the one at it tell that it is the first
pub first_at : (edges : List Edge) (a first : ℕ) → RiseByFrom edges → first ≤ length edges
    → (0 < first → (d : Edge) → (get_or edges (first - 1) d).from < a) → (first < length edges → (d : Edge) → a ≤ (get_or edges first d).from) → IsFirst edges a first
first_at edges a first up within before behind = record {
  within = within;
  before = λ k d lt. let le : (get_or edges k d).from ≤ (get_or edges (first - 1) d).from = up k (first - 1) d (omega arith) (omega arith) in omega (arith, before (omega arith) d);
  behind = λ k d le lt. let more : (get_or edges first d).from ≤ (get_or edges k d).from = up first k d le lt in omega (arith, behind (omega arith) d);
}

-- none behind the end of those that leave a does
pub between_at : (edges : List Edge) (a first end : ℕ) → RiseByFrom edges → IsFirst edges a first → first ≤ end → end ≤ length edges
    → ((k : ℕ) (d : Edge) → first ≤ k → k < end → (get_or edges k d).from ≡ a) → (end < length edges → (d : Edge) → (get_or edges end d).from ≡ a → ⊥) → AreBetween edges a first end
between_at edges a first end up h ordered within each ends = record {
  ordered = ordered;
  within = within;
  each = each;
  all = λ k d lt e. (
    elim (cases_lt k first) [
      | inl less ↦ let low : (get_or edges k d).from < a = h.before k d less in absurd (omega arith)
      | inr le ↦ le
    ],
    elim (cases_lt k end) [
      | inl less ↦ less
      | inr le ↦
          let inside : end < length edges = omega arith in
          let high : a ≤ (get_or edges end d).from = h.behind end d ordered inside in
          let more : (get_or edges end d).from ≤ (get_or edges k d).from = up end k d le lt in
          absurd (ends inside d (omega arith))
    ],
  );
}

-- the slice of these has exactly the edges that leave a
pub slice_has : (edges : List Edge) (a first end : ℕ) → AreBetween edges a first end → (edge : Edge)
    → Contains (take (end - first) (drop first edges)) edge ↔ (Contains edges edge × (edge.from ≡ a))
slice_has edges a first end h edge =
    let ordered : first ≤ end = h.ordered in
    let within : end ≤ length edges = h.within in
    let long : length (take (end - first) (drop first edges)) ≡ end - first = length-take-le (end - first) (drop first edges) (omega (arith, length-drop first edges)) in (
      (λ c.
          let at : c.0 < end - first = omega (arith, c.1) in
          let is : get_or edges (first + c.0) edge ≡ edge = sym (get_or-take (end - first) (drop first edges) c.0 edge at ∙ get_or-drop first edges c.0 edge) ∙ c.2 in
          ((first + c.0, omega arith, is), sym (ap (λ (e : Edge). e.from) is) ∙ h.each (first + c.0) edge (omega arith) (omega arith))),
      (λ c.
          let k : ℕ = c.0.0 in
          let inside : k < length edges = c.0.1 in
          let is : get_or edges k edge ≡ edge = c.0.2 in
          let both = h.all k edge inside (ap (λ (e : Edge). e.from) is ∙ c.1) in
          let low : first ≤ k = both.0 in
          let high : k < end = both.1 in
          let back : first + (k - first) ≡ k = omega arith in
          (k - first, omega arith, get_or-take (end - first) (drop first edges) (k - first) edge (omega arith) ∙ (get_or-drop first edges (k - first) edge ∙ (ap (λ n. get_or edges n edge) back ∙ is)))),
    )
