-- What is made part by part, put together, is made of all.
use Rattle.std.proofs.Common.{◌≡◌, ℕ, ◌+◌, ◌-◌, ◌<◌, List, [], ◌++◌, length, get_or, Ok, Err, refl, sym, ap, ◌∙◌, subst, inl, inr, arith}
use Rattle.std.specs.Prelude.{IfOk}
use Rattle.std.specs.List.{Contains}
use Rattle.std.proofs.lemmas.Bool.{cases_lt}
use Rattle.std.proofs.lemmas.List.{get_or-append-add, get_or_append_left, length-append}
use Rattle.std.proofs.lemmas.List.Elements.{Contains-append_cases, Contains-append_left, Contains-append_right, Contains-get_or}
use Rattle.cfg_model.specs.declared.graph.Block.{Block}
use Rattle.cfg_model.specs.declared.graph.Edge.{Edge}
use Rattle.cfg_model.specs.Program.Instructions.{InstructionMap}
use Rattle.cfg_model.specs.Program.Status.{Returns}
use Rattle.cfg_model.specs.Graph.Edge.{Leaves}
use Rattle.cfg_model.specs.Graph.Graph.{EdgeBefore}
use Rattle.cfg_model.proofs.Program.Listed.{none_in}
use Rattle.reached_graph.specs.Inner.Parts.{Answered, ArePart, IsMade, LeavesOne, blocks_in, edges_in}

-- ---- an item of one of two lists

module _ {X : Type 0} (xs zs : List X) where
  -- it stands in the first one, or so many places later in the second one
  at_left : (i : ℕ) (d : X) → i < length xs → get_or (xs ++ zs) i d ≡ get_or xs i d
  at_left i d within = get_or_append_left xs zs d i within

  at_right : (i k : ℕ) (d : X) → i ≡ length xs + k → get_or (xs ++ zs) i d ≡ get_or zs k d
  at_right i k d is = ap (λ n. get_or (xs ++ zs) n d) is ∙ get_or-append-add xs zs k d

-- what holds of the items of two lists at each place, also holds of two more, and of both together
pub both_each : {X Y : Type 0} (P : X → Y → Type 0) (xs zs : List X) (ys ws : List Y) → length ys ≡ length xs → (d : X) (e : Y)
    → ((i : ℕ) → i < length xs → P (get_or xs i d) (get_or ys i e)) → ((i : ℕ) → i < length zs → P (get_or zs i d) (get_or ws i e))
    → (i : ℕ) → i < length (xs ++ zs) → P (get_or (xs ++ zs) i d) (get_or (ys ++ ws) i e)
both_each P xs zs ys ws same d e one other i within = elim (cases_lt i (length xs)) [
  | inl less ↦ rw (at_left xs zs i d less, at_left ys ws i e (omega (arith, less, same))) (one i less)
  | inr past ↦
      let k : ℕ = i - length xs in
      let is : i ≡ length xs + k = omega arith in
      let inside : k < length zs = omega (arith, within, length-append xs zs) in
      rw (at_right xs zs i k d is, at_right ys ws i k e (omega (arith, is, same))) (other k inside)
]

-- ---- blocks and edges

-- Each address comes before those after it.
abbrev Rises : List ℕ → Type 0
Rises xs = (i j : ℕ) → i < j → j < length xs → get_or xs i 0 < get_or xs j 0

module _ (map : InstructionMap) where
  pub none_part : (xs ks : List ℕ) → length xs ≡ 0 → ArePart map xs ks [] []
  none_part xs ks none = record {
    as_many = sym none;
    each = λ j b within. absurd (omega (arith, within, none));
    listed = record {
      in_order = λ i j d less within. absurd (omega (arith, within));
      sound = λ edge there. absurd (none_in edge there);
      complete = λ edge leaves. absurd (omega (arith, leaves.1, none));
    };
  }

  module _ (xs zs ks ls : List ℕ) (blocks more : List Block) (edges ways : List Edge) (same : length ks ≡ length xs)
      (below : (i j : ℕ) → i < length xs → j < length zs → get_or xs i 0 < get_or zs j 0) (one : ArePart map xs ks blocks edges) (other : ArePart map zs ls more ways) where
    leaves_same : (edge : Edge) (s t k l : ℕ) → s ≡ t → k ≡ l → Leaves map (Returns map) s k edge → Leaves map (Returns map) t l edge
    leaves_same edge s t k l first second leaves = subst (λ z. Leaves map (Returns map) t z edge) second (subst (λ z. Leaves map (Returns map) z k edge) first leaves)

    left_start : (j : ℕ) → j < length xs → get_or (xs ++ zs) j 0 ≡ get_or xs j 0
    left_start j within = at_left xs zs j 0 within

    left_last : (j : ℕ) → j < length xs → get_or (ks ++ ls) j 0 ≡ get_or ks j 0
    left_last j within = at_left ks ls j 0 (omega (arith, within, same))

    right_last : (j k : ℕ) → j ≡ length xs + k → get_or (ks ++ ls) j 0 ≡ get_or ls k 0
    right_last j k is = at_right ks ls j k 0 (omega (arith, is, same))

    -- an edge of the first part comes before one of the second
    edge_before : (edge way : Edge) → Contains edges edge → Contains ways way → EdgeBefore edge way
    edge_before edge way there other_there =
        let first = one.listed.sound edge there in
        let second = other.listed.sound way other_there in
        inl (omega (arith, below first.0 second.0 first.1 second.1, first.2.from, second.2.from))

    edges_rise : (i j : ℕ) (d : Edge) → i < j → j < length (edges ++ ways) → EdgeBefore (get_or (edges ++ ways) i d) (get_or (edges ++ ways) j d)
    edges_rise i j d less within = elim (cases_lt j (length edges)) [
      | inl left ↦ rw (at_left edges ways j d left, at_left edges ways i d (omega (arith, less, left))) (one.listed.in_order i j d less left)
      | inr right ↦
          let k : ℕ = j - length edges in
          let is : j ≡ length edges + k = omega arith in
          let inside : k < length ways = omega (arith, within, length-append edges ways) in
          elim (cases_lt i (length edges)) [
            | inl left ↦
                rw (at_left edges ways i d left, at_right edges ways j k d is)
                (edge_before (get_or edges i d) (get_or ways k d) (Contains-get_or edges i d left) (Contains-get_or ways k d inside))
            | inr too ↦
                let h : ℕ = i - length edges in
                let from : i ≡ length edges + h = omega arith in
                rw (at_right edges ways i h d from, at_right edges ways j k d is) (other.listed.in_order h k d (omega (arith, less, from, is)) inside)
          ]
    ]

    edge_left : (edge : Edge) → LeavesOne map xs ks edge → LeavesOne map (xs ++ zs) (ks ++ ls) edge
    edge_left edge leaves = (leaves.0, omega (arith, leaves.1, length-append xs zs), leaves_same edge _ _ _ _ (sym (left_start leaves.0 leaves.1)) (sym (left_last leaves.0 leaves.1)) leaves.2)

    edge_right : (edge : Edge) → LeavesOne map zs ls edge → LeavesOne map (xs ++ zs) (ks ++ ls) edge
    edge_right edge leaves =
        let at : ℕ = length xs + leaves.0 in
        (at, omega (arith, leaves.1, length-append xs zs), leaves_same edge _ _ _ _ (sym (at_right xs zs at leaves.0 0 refl)) (sym (right_last at leaves.0 refl)) leaves.2)

    pub both_part : ArePart map (xs ++ zs) (ks ++ ls) (blocks ++ more) (edges ++ ways)
    both_part = record {
      as_many = omega (arith, one.as_many, other.as_many, length-append xs zs, length-append blocks more);
      each = λ j b within. elim (cases_lt j (length xs)) [
        | inl less ↦
            rw (at_left xs zs j 0 less, at_left ks ls j 0 (omega (arith, less, same)), at_left blocks more j b (omega (arith, less, one.as_many)))
            (one.each j b less)
        | inr past ↦
            let k : ℕ = j - length xs in
            let is : j ≡ length xs + k = omega arith in
            rw (at_right xs zs j k 0 is, at_right ks ls j k 0 (omega (arith, is, same)), at_right blocks more j k b (omega (arith, is, one.as_many)))
            (other.each k b (omega (arith, within, length-append xs zs, is)))
      ];
      listed = record {
        in_order = edges_rise;
        sound = λ edge there. elim (Contains-append_cases edges ways edge there) [
          | inl left ↦ edge_left edge (one.listed.sound edge left)
          | inr right ↦ edge_right edge (other.listed.sound edge right)
        ];
        complete = λ edge leaves. elim (cases_lt leaves.0 (length xs)) [
          | inl less ↦ Contains-append_left edges ways edge (one.listed.complete edge (leaves.0, less, leaves_same edge _ _ _ _ (left_start leaves.0 less) (left_last leaves.0 less) leaves.2))
          | inr past ↦
              let k : ℕ = leaves.0 - length xs in
              let is : leaves.0 ≡ length xs + k = omega arith in
              let inside : k < length zs = omega (arith, leaves.1, length-append xs zs, is) in
              Contains-append_right edges ways edge (other.listed.complete edge (k, inside, leaves_same edge _ _ _ _ (at_right xs zs leaves.0 k 0 is) (right_last leaves.0 k is) leaves.2))
        ];
      };
    }

  pub made_part : (xs ks : List ℕ) (answer : Answered) → IfOk answer (λ part. ArePart map xs ks part.blocks.items part.edges.items) → IsMade answer → ArePart map xs ks (blocks_in answer) (edges_in answer)
  made_part xs ks (Ok part) is made = is
  made_part xs ks (Err e) is made = absurd (cc)
