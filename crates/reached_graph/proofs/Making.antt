-- The blocks and edges of the first so many starts, of a part, and of all leaders.
use Rattle.std.proofs.Common.{◌≡◌, ℕ, ◌+◌, ◌<◌, List, [], ◌∷◌, length, get_or, refl, sym, ap, ◌∙◌, subst, below_more, inl, inr, arith}
use Rattle.std.specs.Prelude.{All, Contains}
use Rattle.std.proofs.lemmas.Bool.{cases_lt}
use Rattle.std.proofs.lemmas.List.Kept.{AllPairs-from_increasing}
use Rattle.std.proofs.lemmas.List.{get_or_default, get_or_push, get_or_append_left, length_push}
use Rattle.cfg_model.specs.declared.graph.Block.{Block}
use Rattle.cfg_model.specs.declared.graph.Edge.{Edge}
use Rattle.cfg_model.specs.Program.Instructions.{InstructionMap}
use Rattle.cfg_model.specs.Program.Reach.{Reached}
use Rattle.cfg_model.specs.Program.Status.{Returns}
use Rattle.cfg_model.specs.Graph.Block.{IsBlock, IsBlockOf, IsLastOf}
use Rattle.cfg_model.specs.Graph.Edge.{IsEdge, Leaves}
use Rattle.cfg_model.specs.Graph.Graph.{EdgeBefore, IsOutline}
use Rattle.cfg_model.specs.Graph.Leader.{IsLeader}
use Rattle.cfg_model.specs.Graph.Listing.{Lists}
use Rattle.cfg_model.proofs.Program.Listed.{none_in}
use Rattle.cfg_model.proofs.Program.Known.{reached_along}
use Rattle.cfg_model.proofs.Graphs.OneBlock.{block_unique, one_last}
use Rattle.reached_graph.specs.Inner.Blocks.{IsMadeOf}
use Rattle.reached_graph.specs.Inner.Leaders.{AreLeaderLists}
use Rattle.reached_graph.specs.Inner.Parts.{ArePart}

module _ (map : InstructionMap) (xs ks : List ℕ) where
  -- the block from start j, and the edges from it
  abbrev IsOf : ℕ → Block → Type 0
  IsOf j block = IsBlockOf map (get_or xs j 0) (get_or ks j 0) block

  abbrev LeavesAt : ℕ → Edge → Type 0
  LeavesAt j edge = Leaves map (Returns map) (get_or xs j 0) (get_or ks j 0) edge

  pub record AreMade (i : ℕ) (blocks : List Block) (edges : List Edge) : Type 0 where
    pub as_many : length blocks ≡ i
    pub each : (j : ℕ) (b : Block) → j < i → IsOf j (get_or blocks j b)
    pub sound : (edge : Edge) → Contains edges edge → (j : ℕ) × (j < i) × LeavesAt j edge
    pub complete : (j : ℕ) (edge : Edge) → j < i → LeavesAt j edge → Contains edges edge

  pub none_made : AreMade 0 [] []
  none_made = record {
    as_many = refl;
    each = λ j b lt. absurd (omega arith);
    sound = λ edge c. absurd (none_in edge c);
    complete = λ j edge lt leaves. absurd (omega arith);
  }

  pub more_made : (i : ℕ) (old new : List Block) (before after : List Edge) → AreMade i old before → IsMadeOf map (get_or xs i 0) (get_or ks i 0) old new before after → AreMade (i + 1) new after
  more_made i old new before after are made = record {
    as_many = ap length made.pushed ∙ length_push old made.block ∙ ap (λ n. n + 1) are.as_many;
    each = λ j b lt.
        below_more (λ (k : ℕ). IsOf k (get_or new k b)) i
        (λ k below. subst (IsOf k) (sym (ap (λ (ys : List Block). get_or ys k b) made.pushed ∙ get_or_append_left old (made.block ∷ []) b k (omega (arith, are.as_many, below)))) (are.each k b below))
        (subst (IsOf i) (sym (ap (λ (ys : List Block). get_or ys i b) made.pushed ∙ get_or_push old made.block b i are.as_many)) made.is)
        j lt;
    sound = λ edge c. elim (made.gained.nothing_else edge c) [
      | inl was ↦ let found = are.sound edge was in (found.0, omega (arith, found.1), found.2)
      | inr leaves ↦ (i, omega arith, leaves)
    ];
    complete = λ j edge lt leaves. elim (cases_lt j i) [
      | inl less ↦ made.gained.kept edge (are.complete j edge less leaves)
      | inr le ↦
          let same : j ≡ i = omega arith in
          made.gained.added edge (subst (λ n. LeavesAt n edge) same leaves)
    ];
  }

-- ---- a part

-- in order, the edges of all of some starts are those of a part
pub part_made : (map : InstructionMap) (xs ks : List ℕ) (i : ℕ) → i ≡ length xs → (blocks : List Block) (edges sorted : List Edge) → AreMade map xs ks i blocks edges → Lists EdgeBefore (Contains edges) sorted → ArePart map xs ks blocks sorted
part_made map xs ks i whole blocks edges sorted made lists = record {
  as_many = made.as_many ∙ whole;
  each = λ j b lt. made.each j b (omega (arith, lt, whole));
  listed = record {
    in_order = lists.in_order;
    sound = λ edge there. let found = made.sound edge (lists.sound edge there) in (found.0, omega (arith, found.1, whole), found.2);
    complete = λ edge leaves. lists.complete edge (made.complete leaves.0 edge (omega (arith, leaves.1, whole)) leaves.2);
  };
}

-- that of all leaders has the blocks and edges of the program

module _ (map : InstructionMap) (seeds : List ℕ) (xs ks : List ℕ) (are : AreLeaderLists map seeds xs ks) where
  leader_at : (i d : ℕ) → i < length xs → IsLeader map seeds (get_or xs i d)
  leader_at i d within = (are.listed (get_or xs i d)).0 (i, within, get_or_default xs i (get_or xs i d) d within)

  last_at : (i d : ℕ) → i < length xs → IsLastOf map (IsLeader map seeds) (get_or xs i d) (get_or ks i d)
  last_at i d within = are.cut.each i d within

  -- the last addresses of blocks are reached
  pub lasts_reached : All (Reached map seeds) ks
  lasts_reached i d within =
      let inside : i < length xs = omega (arith, within, are.cut.as_many) in
      reached_along (leader_at i d inside).reached (last_at i d inside).runs

  module _ (blocks : List Block) (edges : List Edge) (part : ArePart map xs ks blocks edges) where
    block_start : (i : ℕ) (b : Block) → i < length xs → (get_or blocks i b).start ≡ get_or xs i 0
    block_start i b within = (part.each i b within).start

    block_at : (i : ℕ) (b : Block) → i < length xs → IsBlock map seeds (get_or blocks i b)
    block_at i b within =
        let of : IsBlockOf map (get_or xs i 0) (get_or ks i 0) (get_or blocks i b) = part.each i b within in
        let start : get_or xs i 0 ≡ (get_or blocks i b).start = sym of.start in (
          get_or ks i 0,
          record {
            leader = subst (IsLeader map seeds) start (leader_at i 0 within);
            last = subst (λ z. IsLastOf map (IsLeader map seeds) z (get_or ks i 0)) start (last_at i 0 within);
            of = subst (λ z. IsBlockOf map z (get_or ks i 0) (get_or blocks i b)) start of;
          },
        )

    blocks_rise : (i j : ℕ) (b : Block) → i < j → j < length blocks → (get_or blocks i b).start < (get_or blocks j b).start
    blocks_rise i j b lt within =
        let inside : j < length xs = omega (arith, part.as_many, within) in
        let first : (get_or blocks i b).start ≡ get_or xs i 0 = block_start i b (omega arith) in
        let second : (get_or blocks j b).start ≡ get_or xs j 0 = block_start j b inside in
        let less : get_or xs i 0 < get_or xs j 0 = AllPairs-from_increasing xs are.rise i j 0 lt inside in
        omega arith

    block_listed : (b : Block) → IsBlock map seeds b → Contains blocks b
    block_listed b is =
        let place : Contains xs b.start = (are.listed b.start).1 is.1.leader in
        let inside : place.0 < length xs = place.1 in
        let same : (get_or blocks place.0 b).start ≡ b.start = block_start place.0 b inside ∙ get_or_default xs place.0 0 b.start inside ∙ place.2 in
        (place.0, omega (arith, part.as_many, inside), block_unique map seeds (get_or blocks place.0 b) b (block_at place.0 b inside) is same)

    block_sound : (b : Block) → Contains blocks b → IsBlock map seeds b
    block_sound b c = let lt : c.0 < length blocks = c.1 in subst (IsBlock map seeds) c.2 (block_at c.0 b (omega (arith, part.as_many, lt)))

    edge_sound : (edge : Edge) → Contains edges edge → IsEdge map seeds edge
    edge_sound edge c =
        let found = part.listed.sound edge c in
        let j : ℕ = found.0 in
        let lt : j < length xs = found.1 in
        let leaves : Leaves map (Returns map) (get_or xs j 0) (get_or ks j 0) edge = found.2 in
        let from : get_or xs j 0 ≡ edge.from = sym leaves.from in
        record {
          last = get_or ks j 0;
          from = subst (IsLeader map seeds) from (leader_at j 0 lt);
          ends = subst (λ z. IsLastOf map (IsLeader map seeds) z (get_or ks j 0)) from (last_at j 0 lt);
          leads = leaves.leads;
        }

    edge_listed : (edge : Edge) → IsEdge map seeds edge → Contains edges edge
    edge_listed edge is =
        let place : Contains xs edge.from = (are.listed edge.from).1 is.from in
        let j : ℕ = place.0 in
        let within : j < length xs = place.1 in
        let start : edge.from ≡ get_or xs j 0 = sym (get_or_default xs j 0 edge.from within ∙ place.2) in
        let same : is.last ≡ get_or ks j 0 = one_last (subst (λ z. IsLastOf map (IsLeader map seeds) z is.last) start is.ends) (last_at j 0 within) in
        part.listed.complete edge (
          j,
          within,
          subst (λ z. Leaves map (Returns map) z (get_or ks j 0) edge) start
              (subst (λ z. Leaves map (Returns map) edge.from z edge) same
              (record { from = refl; leads = is.leads })),
        )

    pub outline_made : IsOutline map seeds blocks edges
    outline_made = record {
      all_blocks = record { in_order = blocks_rise; sound = block_sound; complete = block_listed };
      all_edges = record { in_order = part.listed.in_order; sound = edge_sound; complete = edge_listed };
    }
