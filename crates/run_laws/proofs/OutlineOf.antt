-- The blocks of a graph, with its edges before tail calls are marked, are an outline.
use Rattle.std.proofs.Common.{◌≡◌, ◌≢◌, ℕ, ◌<◌, ◌≤◌, ◌&&◌, Bool, true, false, List, [], ◌∷◌, Contains, map, eqb, refl, sym, ap, ◌∙◌, subst, inl, inr, ⊎_elim, arith}
use Rattle.std.specs.Prelude.{AllPairs, All}
use Rattle.std.specs.List.{list_any}
use Rattle.std.proofs.lemmas.Bool.{and_from, both_ways, eq-eqb, and_parts, eqb-true}
use Rattle.std.proofs.lemmas.List.Kept.{AllPairs-cons}
use Rattle.std.proofs.lemmas.List.Elements.{All-cons, All-nil}
use Rattle.elf_image.proofs.Finds.{find-cases, any-contained}
use Rattle.cfg_model.specs.declared.graph.Edge.{Edge}
use Rattle.cfg_model.specs.declared.graph.EdgeKind.{EdgeKind}
use Rattle.cfg_model.specs.declared.graph.EdgeKind.TheVariants as kinds
use Rattle.cfg_model.specs.declared.graph.Graph.{Graph}
use Rattle.cfg_model.specs.Program.Instructions.{InstructionMap}
use Rattle.cfg_model.specs.Graph.Edge.{LeadsTo, IsEdge}
use Rattle.cfg_model.specs.Graph.Function.{IsTailCall, IsMarkedEdge}
use Rattle.cfg_model.specs.Graph.Graph.{rank, EdgeBefore, IsGraph, IsOutline}
use Rattle.cfg_model.proofs.Graphs.Lists.{Contains-here, Contains-later, Contains-cons_cases, Contains-none, AllPairs-head, AllPairs-tail}
use Rattle.run_laws.specs.Outline.{unmarked_kind, unmarked, outline_of}

-- ---- an edge of an outline is no tail call

no_tail_leads : {program : InstructionMap} {May : ℕ → Type 0} {k to : ℕ} {kind : EdgeKind} → LeadsTo program May k to kind → unmarked_kind kind ≡ kind
no_tail_leads (LeadsTo.straight goes) = refl
no_tail_leads (LeadsTo.not_taken goes) = refl
no_tail_leads (LeadsTo.taken goes) = refl
no_tail_leads (LeadsTo.jump goes) = refl
no_tail_leads (LeadsTo.call goes) = refl
no_tail_leads (LeadsTo.after_indirect goes) = refl
no_tail_leads (LeadsTo.after_call goes back) = refl
no_tail_leads (LeadsTo.table goes kept) = refl
no_tail_leads (LeadsTo.landing calls kept) = refl

abbrev edge_with : ℕ → ℕ → EdgeKind → Edge
edge_with from to kind = record { from = from; to = to; kind = kind }

module _ (program : InstructionMap) (seeds : List ℕ) where
  unmarked_same : (edge : Edge) → IsEdge program seeds edge → unmarked edge ≡ edge
  unmarked_same edge is = ap (λ kind. edge_with edge.from edge.to kind) (no_tail_leads is.leads)

  -- what is marked comes from an edge of the program
  from_marked : {edge : Edge} → IsMarkedEdge program seeds edge → IsEdge program seeds (unmarked edge)
  from_marked (IsMarkedEdge.other {edge = edge} is apart) = subst (IsEdge program seeds) (sym (unmarked_same edge is)) is
  from_marked (IsMarkedEdge.jump {edge = edge} is jump none) = subst (IsEdge program seeds) (sym (unmarked_same edge is)) is
  from_marked (IsMarkedEdge.tail {edge = edge} is jump tail) = subst (IsEdge program seeds) (ap (λ kind. edge_with edge.from edge.to kind) jump) is

  -- of one jump there is one mark
  tail_of : {edge : Edge} → IsMarkedEdge program seeds edge → edge.kind ≡ kinds.Tail → IsTailCall program seeds edge.from edge.to
  tail_of (IsMarkedEdge.other {edge = edge} is apart) e = absurd (let h : kinds.Jump ≡ kinds.Tail = sym (ap unmarked_kind e) ∙ no_tail_leads is.leads ∙ e in cc)
  tail_of (IsMarkedEdge.jump is jump none) e = absurd (let h : kinds.Jump ≡ kinds.Tail = sym jump ∙ e in cc)
  tail_of (IsMarkedEdge.tail is jump tail) e = tail

  no_tail_of : {edge : Edge} → IsMarkedEdge program seeds edge → edge.kind ≡ kinds.Jump → ¬ IsTailCall program seeds edge.from edge.to
  no_tail_of (IsMarkedEdge.other is apart) e = absurd (apart e)
  no_tail_of (IsMarkedEdge.jump is jump none) e = none
  no_tail_of (IsMarkedEdge.tail is jump tail) e = absurd (let h : kinds.Tail ≡ kinds.Jump = e in cc)

  -- ---- the order is kept

  lower : (k : EdgeKind) → rank (unmarked_kind k) ≤ rank k
  lower kinds.Fall = omega arith
  lower kinds.Taken = omega arith
  lower kinds.Jump = omega arith
  lower kinds.Tail = omega arith
  lower kinds.Call = omega arith
  lower kinds.After = omega arith
  lower kinds.Table = omega arith
  lower kinds.Landing = omega arith

  before_tail : (k : EdgeKind) → rank k < 3 → (k ≡ kinds.Jump → ⊥) → rank (unmarked_kind k) < 2
  before_tail kinds.Fall h none = omega arith
  before_tail kinds.Taken h none = omega arith
  before_tail kinds.Jump h none = absurd (none refl)
  before_tail kinds.Tail h none = absurd (omega (arith, h))
  before_tail kinds.Call h none = absurd (omega (arith, h))
  before_tail kinds.After h none = absurd (omega (arith, h))
  before_tail kinds.Table h none = absurd (omega (arith, h))
  before_tail kinds.Landing h none = absurd (omega (arith, h))

  rank_kept : (k l : EdgeKind) → rank k < rank l → (k ≡ kinds.Jump → l ≡ kinds.Tail → ⊥) → rank (unmarked_kind k) < rank (unmarked_kind l)
  rank_kept k kinds.Tail h none = before_tail k h (λ e. none e refl)
  rank_kept k kinds.Fall h none = omega (arith, h, lower k)
  rank_kept k kinds.Taken h none = omega (arith, h, lower k)
  rank_kept k kinds.Jump h none = omega (arith, h, lower k)
  rank_kept k kinds.Call h none = omega (arith, h, lower k)
  rank_kept k kinds.After h none = omega (arith, h, lower k)
  rank_kept k kinds.Table h none = omega (arith, h, lower k)
  rank_kept k kinds.Landing h none = omega (arith, h, lower k)

  before_kept : (a b : Edge) → IsMarkedEdge program seeds a → IsMarkedEdge program seeds b → EdgeBefore a b → EdgeBefore (unmarked a) (unmarked b)
  before_kept a b is are (inl from) = inl from
  before_kept a b is are (inr (from, inl to)) = inr (from, inl to)
  before_kept a b is are (inr (from, inr (to, less))) = inr (from, inr (to, rank_kept a.kind b.kind less apart))
    where
      apart : a.kind ≡ kinds.Jump → b.kind ≡ kinds.Tail → ⊥
      apart jump tail = no_tail_of is jump (subst (λ x. IsTailCall program seeds x a.to) (sym from) (subst (λ y. IsTailCall program seeds b.from y) (sym to) (tail_of are tail)))

  all_after : (e : Edge) (es : List Edge) → ((f : Edge) → Contains es f → EdgeBefore (unmarked e) (unmarked f)) → All (EdgeBefore (unmarked e)) (map unmarked es)
  all_after e [] h = All-nil (EdgeBefore (unmarked e))
  all_after e (f ∷ es) h = All-cons (EdgeBefore (unmarked e)) (unmarked f) (map unmarked es) (h f (Contains-here f es)) (all_after e es (λ g there. h g (Contains-later f es g there)))

  in_order : (es : List Edge) → AllPairs EdgeBefore es → ((e : Edge) → Contains es e → IsMarkedEdge program seeds e) → AllPairs EdgeBefore (map unmarked es)
  in_order [] pairs marked = λ i j d below within. absurd (omega (arith, within))
  in_order (e ∷ es) pairs marked =
      AllPairs-cons EdgeBefore (unmarked e) (map unmarked es)
      (all_after e es (λ f there. before_kept e f (marked e (Contains-here e es)) (marked f (Contains-later e es f there)) (AllPairs-head EdgeBefore e es f pairs there)))
      (in_order es (AllPairs-tail EdgeBefore e es pairs) (λ f there. marked f (Contains-later e es f there)))

  -- ---- the same edges

  among_unmarked : (es : List Edge) (e : Edge) → Contains es e → Contains (map unmarked es) (unmarked e)
  among_unmarked [] e there = absurd (Contains-none e there)
  among_unmarked (f ∷ es) e there =
      ⊎_elim (λ same. subst (λ x. Contains (unmarked f ∷ map unmarked es) (unmarked x)) same (Contains-here (unmarked f) (map unmarked es)))
      (λ later. Contains-later (unmarked f) (map unmarked es) (unmarked e) (among_unmarked es e later)) (Contains-cons_cases f es e there)

  marked_one : (es : List Edge) (x : Edge) → Contains (map unmarked es) x → (e : Edge) × Contains es e × (unmarked e ≡ x)
  marked_one [] x there = absurd (Contains-none x there)
  marked_one (f ∷ es) x there =
      ⊎_elim (λ same. (f, Contains-here f es, same))
      (λ later. let found = marked_one es x later in (found.0, Contains-later f es found.0 found.1, found.2)) (Contains-cons_cases (unmarked f) (map unmarked es) x there)

  abbrev is_jump : EdgeKind → Bool
  is_jump kinds.Jump = true
  is_jump kinds.Tail = true
  is_jump _ = false

  jump_unmarked : (k : EdgeKind) → is_jump k ≡ true → unmarked_kind k ≡ kinds.Jump
  jump_unmarked kinds.Jump e = refl
  jump_unmarked kinds.Tail e = refl
  jump_unmarked kinds.Fall e = cc
  jump_unmarked kinds.Taken e = cc
  jump_unmarked kinds.Call e = cc
  jump_unmarked kinds.After e = cc
  jump_unmarked kinds.Table e = cc
  jump_unmarked kinds.Landing e = cc

  module _ (entry : ℕ) (graph : Graph) (is : IsGraph program seeds entry graph) where
    module _ (edge : Edge) (drawn : IsEdge program seeds edge) where
      passes : (kind : EdgeKind) → is_jump kind ≡ true → ((eqb edge.from edge.from && eqb edge.to edge.to) && is_jump kind) ≡ true
      passes kind jump = and_from _ _ (and_from _ _ (eq-eqb edge.from edge.from refl) (eq-eqb edge.to edge.to refl)) jump

      other_there : edge.kind ≢ kinds.Jump → Contains (map unmarked graph.edges) edge
      other_there apart =
          subst (λ e. Contains (map unmarked graph.edges) e) (unmarked_same edge drawn)
          (among_unmarked graph.edges edge (is.edges.complete edge (IsMarkedEdge.other drawn apart)))

      not_none : edge.kind ≡ kinds.Jump → list_any (λ (e : Edge). (eqb e.from edge.from && eqb e.to edge.to) && is_jump e.kind) graph.edges ≡ false → ⊥
      not_none jump none = listed edge (is.edges.complete edge (IsMarkedEdge.jump drawn jump no_tail)) (passes edge.kind (ap is_jump jump))
        where
          listed : (e : Edge) → Contains graph.edges e → ((eqb e.from edge.from && eqb e.to edge.to) && is_jump e.kind) ≡ true → ⊥
          listed e there passed =
              both_ways (list_any (λ (e : Edge). (eqb e.from edge.from && eqb e.to edge.to) && is_jump e.kind) graph.edges) none
              (any-contained (λ (e : Edge). (eqb e.from edge.from && eqb e.to edge.to) && is_jump e.kind) graph.edges e there passed)

          no_tail : ¬ IsTailCall program seeds edge.from edge.to
          no_tail tail = listed (record edge { kind = kinds.Tail }) (is.edges.complete (record edge { kind = kinds.Tail }) (IsMarkedEdge.tail drawn jump tail)) (passes kinds.Tail refl)

      jump_there : edge.kind ≡ kinds.Jump → Contains (map unmarked graph.edges) edge
      jump_there jump = elim (find-cases (λ (e : Edge). (eqb e.from edge.from && eqb e.to edge.to) && is_jump e.kind) graph.edges) [
        | inl none ↦ absurd (not_none jump none.1)
        | inr some ↦
            let both = and_parts _ (is_jump some.0.kind) some.2 in
            let ends = and_parts (eqb some.0.from edge.from) (eqb some.0.to edge.to) both.0 in
            let same : unmarked some.0 ≡ edge =
            ap (λ x. edge_with x some.0.to (unmarked_kind some.0.kind)) (eqb-true some.0.from edge.from ends.0)
            ∙ ap (λ x. edge_with edge.from x (unmarked_kind some.0.kind)) (eqb-true some.0.to edge.to ends.1)
            ∙ ap (λ k. edge_with edge.from edge.to k) (jump_unmarked some.0.kind both.1 ∙ sym jump) in
            subst (λ e. Contains (map unmarked graph.edges) e) same (among_unmarked graph.edges some.0 some.3)
      ]

      all_there : Contains (map unmarked graph.edges) edge
      all_there = by edge.kind refl
        where
          by : (kind : EdgeKind) → edge.kind ≡ kind → Contains (map unmarked graph.edges) edge
          by kinds.Jump e = jump_there e
          by kind e = other_there (λ jump. cc)

    only_those : (edge : Edge) → Contains (map unmarked graph.edges) edge → IsEdge program seeds edge
    only_those edge there =
        let found = marked_one graph.edges edge there in
        subst (IsEdge program seeds) found.2 (from_marked (is.edges.sound found.0 found.1))

    pub graph_has_outline : IsOutline program seeds (outline_of graph).blocks (outline_of graph).edges
    graph_has_outline = record {
      all_blocks = is.blocks;
      all_edges = record {
        in_order = in_order graph.edges is.edges.in_order is.edges.sound;
        sound = only_those;
        complete = all_there;
      };
    }
