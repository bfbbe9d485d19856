-- The edges from one block lie side by side in a list that rises by what they leave.
use Rattle.std.proofs.Common.{◌≡◌, ℕ, ◌+◌, ◌-◌, ◌<◌, ◌≤◌, ◌↔◌, List, length, take, drop, get_or, sym, ap, ◌∙◌, subst, inl, inr, arith, length-drop}
use Rattle.std.specs.List.{All, AllPairs, Contains}
use Rattle.std.specs.List.Sorted.{IsNonDecreasingBy}
use Rattle.std.proofs.lemmas.Bool.{cases_lt}
use Rattle.std.proofs.lemmas.List.{get_or-take, get_or-drop, length-take-le}
use Rattle.cfg_model.specs.declared.graph.Block.{Block}
use Rattle.cfg_model.specs.declared.graph.Edge.{Edge}
use Rattle.cfg_model.specs.declared.graph.EdgeKind.TheVariants as kinds
use Rattle.cfg_model.specs.Graph.Graph.{BlockBefore}
use Rattle.outline_funcs.specs.declared.exits.Exits.{Exits}
use Rattle.outline_funcs.specs.Inner.Blocks.{IsNumber}
use Rattle.outline_funcs.specs.Inner.Exits.{AreExits, IsFirst, JoinsBlocks}
use Rattle.outline_funcs.proofs.Numbers.{none, number_of_block, numbers_less, numbers_rise}

-- an edge of any kind, for reads of a list
no_edge : Edge
no_edge = record { from = 0; to = 0; kind = kinds.Fall }

-- where the edges that leave a or a later address begin
pub first_at : (blocks : List Block) (edges : List Edge) (i first a : ℕ) → AllPairs BlockBefore blocks → IsNonDecreasingBy (λ (edge : Edge). edge.from) edges
    → IsNumber blocks i a → first ≤ length edges → ((k : ℕ) (d : Edge) → k < first → (get_or edges k d).from < a)
    → ((d : Edge) → first < length edges → a ≤ (get_or edges first d).from) → IsFirst blocks edges i first
first_at blocks edges i first a up rise number within before there = record {
  within = within;
  before = λ k j d lt is. numbers_less blocks none i j a (get_or edges k d).from up number is (before k d lt);
  behind = λ k j d le lt is.
      let least : a ≤ (get_or edges first d).from = there d (omega arith) in
      let more : (get_or edges first d).from ≤ (get_or edges k d).from = rise first k d le lt in
      numbers_rise blocks none i j a (get_or edges k d).from up number is (omega arith);
}

-- no edge leaves a block behind the last
pub first_behind : (blocks : List Block) (edges : List Edge) → IsFirst blocks edges (length blocks) (length edges)
first_behind blocks edges = record {
  within = omega arith;
  before = λ k j d lt is. is.within;
  behind = λ k j d le lt is. absurd (omega arith);
}

module _ (blocks : List Block) (edges : List Edge) (joined : All (JoinsBlocks blocks) edges) (first last i : ℕ)
    (one : IsFirst blocks edges i first) (other : IsFirst blocks edges (i + 1) last) where
  -- the number of the block that an edge leaves
  left_at : (k : ℕ) (d : Edge) → k < length edges → (j : ℕ) × IsNumber blocks j (get_or edges k d).from
  left_at k d lt = number_of_block blocks (get_or edges k d).from (joined k d lt).leaves

  first_before_last : first ≤ last
  first_before_last =
      elim (cases_lt last first) [
        | inl lt ↦
            let within : first ≤ length edges = one.within in
            let here : last < length edges = omega arith in
            let left = left_at last no_edge here in
            let low : left.0 < i = one.before last left.0 no_edge lt left.1 in
            let high : i + 1 ≤ left.0 = other.behind last left.0 no_edge (omega arith) here left.1 in
            absurd (omega arith)
        | inr le ↦ le
      ]

  side_at : (k : ℕ) (d : Edge) → k < last - first → get_or (take (last - first) (drop first edges)) k d ≡ get_or edges (first + k) d
  side_at k d lt = get_or-take (last - first) (drop first edges) k d lt ∙ get_or-drop first edges k d

  side_length : length (take (last - first) (drop first edges)) ≡ last - first
  side_length = let within : last ≤ length edges = other.within in length-take-le (last - first) (drop first edges) (omega (arith, length-drop first edges))

  -- those between the first edge from block i and the first from what follows it
  sides : (edge : Edge) → Contains (take (last - first) (drop first edges)) edge ↔ (Contains edges edge × IsNumber blocks i edge.from)
  sides edge = (
    (λ h.
        let long : length (take (last - first) (drop first edges)) ≡ last - first = side_length in
        let within : last ≤ length edges = other.within in
        let at : h.0 < length (take (last - first) (drop first edges)) = h.1 in
        let here : h.0 < last - first = omega arith in
        let there : first + h.0 < length edges = omega arith in
        let is : get_or edges (first + h.0) edge ≡ edge = sym (side_at h.0 edge here) ∙ h.2 in
        let left = left_at (first + h.0) edge there in
        let low : i ≤ left.0 = one.behind (first + h.0) left.0 edge (omega arith) there left.1 in
        let high : left.0 < i + 1 = other.before (first + h.0) left.0 edge (omega arith) left.1 in
        let same : left.0 ≡ i = omega arith in
        ((first + h.0, there, is), subst (λ (x : Edge). IsNumber blocks i x.from) is (subst (λ n. IsNumber blocks n (get_or edges (first + h.0) edge).from) same left.1))),
    (λ h.
        let long : length (take (last - first) (drop first edges)) ≡ last - first = side_length in
        let j : ℕ = h.0.0 in
        let at : j < length edges = h.0.1 in
        let is : get_or edges j edge ≡ edge = h.0.2 in
        let left : IsNumber blocks i (get_or edges j edge).from = subst (λ (x : Edge). IsNumber blocks i x.from) (sym is) h.1 in
        let past : first ≤ j =
        elim (cases_lt j first) [
          | inl lt ↦ let less : i < i = one.before j i edge lt left in absurd (omega arith)
          | inr le ↦ le
        ] in
        let below : j < last =
        elim (cases_lt j last) [
          | inl lt ↦ lt
          | inr le ↦ let more : i + 1 ≤ i = other.behind j i edge le at left in absurd (omega arith)
        ] in
        let back : first + (j - first) ≡ j = omega arith in
        let here : j - first < last - first = omega arith in
        (j - first, omega arith, side_at (j - first) edge here ∙ (ap (λ n. get_or edges n edge) back ∙ is))),
  )

-- the same read off the places of all blocks
module _ (exits : Exits) (are : AreExits exits) (i first last : ℕ) (within : i < length exits.blocks.now)
    (is_first : first ≡ get_or exits.firsts.items i first) (is_last : last ≡ get_or exits.firsts.items (i + 1) last) where
  all_firsts : length exits.firsts.items ≡ length exits.blocks.now + 1
  all_firsts = are.firsts.as_many

  one : IsFirst exits.blocks.now exits.edges.now i first
  one = subst (IsFirst exits.blocks.now exits.edges.now i) (sym is_first) (are.firsts.each i first (omega (arith, all_firsts)))

  other : IsFirst exits.blocks.now exits.edges.now (i + 1) last
  other = subst (IsFirst exits.blocks.now exits.edges.now (i + 1)) (sym is_last) (are.firsts.each (i + 1) last (omega (arith, all_firsts)))

  pub side_begins : first ≤ last
  side_begins = first_before_last exits.blocks.now exits.edges.now are.joined first last i one other

  pub side : (edge : Edge) → Contains (take (last - first) (drop first exits.edges.now)) edge ↔ (Contains exits.edges.now edge × IsNumber exits.blocks.now i edge.from)
  side = sides exits.blocks.now exits.edges.now are.joined first last i one other
