-- The edges in which tail calls are marked are those of the graph.
use Rattle.std.proofs.Common.{◌≡◌, ◌≢◌, ℕ, ◌<◌, ◌⊎◌, List, length, get_or, refl, ap, ◌∙◌, subst, inl, inr, ⊎_elim, arith}
use Rattle.std.specs.List.{Contains}
use Rattle.std.proofs.lemmas.List.{get_or_default}
use Rattle.std.proofs.lemmas.List.Elements.{Contains-get_or}
use Rattle.cfg_model.specs.declared.graph.Edge.{Edge}
use Rattle.cfg_model.specs.declared.graph.EdgeKind.{EdgeKind}
use Rattle.cfg_model.specs.declared.graph.EdgeKind.TheVariants as kinds
use Rattle.cfg_model.specs.declared.graph.Function.{Function}
use Rattle.cfg_model.specs.Program.Instructions.{InstructionMap}
use Rattle.cfg_model.specs.Graph.Edge.{LeadsTo, IsEdge}
use Rattle.cfg_model.specs.Graph.Function.{IsEntry, InBody, IsFunction, IsTailCall, IsMarkedEdge}
use Rattle.cfg_model.specs.Graph.Listing.{Lists}
use Rattle.cfg_model.specs.Graph.Graph.{FunctionBefore, EdgeBefore, rank}
use Rattle.outline_funcs.specs.Tails.{IsTailAmong, IsMarkOf, AreMarksOf}
use Rattle.cfg_model.specs.Program.Status.{Returns}

-- no edge is a tail call before it is marked
no_tail : {map : InstructionMap} {k to : ℕ} {kind : EdgeKind} → LeadsTo map (Returns map) k to kind → kind ≢ kinds.Tail
no_tail (LeadsTo.straight h) e = cc
no_tail (LeadsTo.not_taken h) e = cc
no_tail (LeadsTo.taken h) e = cc
no_tail (LeadsTo.jump h) e = cc
no_tail (LeadsTo.call h) e = cc
no_tail (LeadsTo.after_indirect h) e = cc
no_tail (LeadsTo.after_call h back) e = cc
no_tail (LeadsTo.table h c) e = cc
no_tail (LeadsTo.landing calls c) e = cc

-- a kind behind that of a jump is behind that of a tail call
behind_tail : (kind : EdgeKind) → kind ≢ kinds.Tail → 2 < rank kind → 3 < rank kind
behind_tail kinds.Fall ne lt = absurd (omega arith)
behind_tail kinds.Taken ne lt = absurd (omega arith)
behind_tail kinds.Jump ne lt = absurd (omega arith)
behind_tail kinds.Tail ne lt = absurd (ne refl)
behind_tail kinds.Call ne lt = omega arith
behind_tail kinds.After ne lt = omega arith
behind_tail kinds.Table ne lt = omega arith
behind_tail kinds.Landing ne lt = omega arith

jump_or_not : (kind : EdgeKind) → (kind ≡ kinds.Jump) ⊎ (kind ≢ kinds.Jump)
jump_or_not kinds.Jump = inl refl
jump_or_not kind = inr (λ e. cc)

before_as : (a b : Edge) (j k : EdgeKind) → (rank a.kind < rank b.kind → rank j < rank k) → EdgeBefore a b → EdgeBefore (record a { kind = j }) (record b { kind = k })
before_as a b j k up h =
    ⊎_elim
    (λ from. inl from)
    (λ same. inr (same.0, ⊎_elim (λ to. inl to) (λ last. inr (last.0, up last.1)) same.1))
    h

mark_before : {functions : List Function} (a b : Edge) {x y : Edge} → b.kind ≢ kinds.Tail → IsMarkOf functions a x → IsMarkOf functions b y → EdgeBefore a b → EdgeBefore x y
mark_before a b ne (IsMarkOf.tail s) (IsMarkOf.tail t) h =
    before_as a b kinds.Tail kinds.Tail
    (λ lt. let j : rank a.kind ≡ 2 = ap rank s.jump in let k : rank b.kind ≡ 2 = ap rank t.jump in absurd (omega arith)) h
mark_before a b ne (IsMarkOf.tail s) (IsMarkOf.same t) h =
    before_as a b kinds.Tail b.kind
    (λ lt. let j : rank a.kind ≡ 2 = ap rank s.jump in behind_tail b.kind ne (omega arith)) h
mark_before a b ne (IsMarkOf.same s) (IsMarkOf.tail t) h =
    before_as a b a.kind kinds.Tail
    (λ lt. let k : rank b.kind ≡ 2 = ap rank t.jump in let up : rank a.kind < 3 = omega arith in up) h
mark_before a b ne (IsMarkOf.same s) (IsMarkOf.same t) h = h

one_mark : {functions : List Function} (a : Edge) {x y : Edge} → IsMarkOf functions a x → IsMarkOf functions a y → x ≡ y
one_mark a (IsMarkOf.tail s) (IsMarkOf.tail t) = refl
one_mark a (IsMarkOf.tail s) (IsMarkOf.same t) = absurd (t s)
one_mark a (IsMarkOf.same s) (IsMarkOf.tail t) = absurd (s t)
one_mark a (IsMarkOf.same s) (IsMarkOf.same t) = refl

module _ (map : InstructionMap) (seeds : List ℕ) (functions : List Function) (lists : Lists FunctionBefore (IsFunction map seeds) functions)
    (find : (a : ℕ) → IsEntry map seeds a → (f : Function) × Contains functions f × (f.entry ≡ a)) where
  tail_call : (edge : Edge) → IsTailAmong functions edge → IsTailCall map seeds edge.from edge.to
  tail_call edge t =
      let is : IsFunction map seeds t.function = lists.sound t.function t.listed in
      subst (IsTailCall map seeds edge.from) t.entered
      (record { entry = is.entry; outside = λ h. t.outside (is.body.complete edge.from h) })

  tail_within : (edge : Edge) → edge.kind ≡ kinds.Jump → IsTailCall map seeds edge.from edge.to → IsTailAmong functions edge
  tail_within edge jump t =
      let f = find edge.to t.entry in
      let is : IsFunction map seeds f.0 = lists.sound f.0 f.1 in
      record {
        jump = jump;
        function = f.0;
        listed = f.1;
        entered = f.2;
        outside = λ h. t.outside (subst (λ x. InBody (IsEdge map seeds) (IsEntry map seeds) x edge.from) f.2 (is.body.sound edge.from h));
      }

  marked_from : (edge : Edge) {x : Edge} → IsEdge map seeds edge → IsMarkOf functions edge x → IsMarkedEdge map seeds x
  marked_from edge is (IsMarkOf.tail t) = IsMarkedEdge.tail is t.jump (tail_call edge t)
  marked_from edge is (IsMarkOf.same none) =
      ⊎_elim
      (λ jump. IsMarkedEdge.jump is jump (λ t. none (tail_within edge jump t)))
      (λ ne. IsMarkedEdge.other is ne)
      (jump_or_not edge.kind)

  mark_of : {x : Edge} → IsMarkedEdge map seeds x → (edge : Edge) × IsEdge map seeds edge × IsMarkOf functions edge x
  mark_of (IsMarkedEdge.other {edge = edge} is ne) = (edge, is, IsMarkOf.same (λ t. ne t.jump))
  mark_of (IsMarkedEdge.jump {edge = edge} is jump none) = (edge, is, IsMarkOf.same (λ t. none (tail_call edge t)))
  mark_of (IsMarkedEdge.tail {edge = edge} is jump t) = (edge, is, IsMarkOf.tail (tail_within edge jump t))

  pub marked_exact : (old new : List Edge) → Lists EdgeBefore (IsEdge map seeds) old → AreMarksOf functions old new → Lists EdgeBefore (IsMarkedEdge map seeds) new
  marked_exact old new edges marks = record {
    in_order = λ i j d below within.
        let same : length new ≡ length old = marks.same_length in
        let lt : j < length old = omega arith in
        let is : IsEdge map seeds (get_or old j d) = edges.sound (get_or old j d) (Contains-get_or old j d lt) in
        mark_before (get_or old i d) (get_or old j d) (no_tail is.leads) (marks.marked i d (omega arith)) (marks.marked j d lt) (edges.in_order i j d below lt);
    sound = λ x h.
        let same : length new ≡ length old = marks.same_length in
        let at : h.0 < length new = h.1 in
        let lt : h.0 < length old = omega arith in
        subst (IsMarkedEdge map seeds) h.2
        (marked_from (get_or old h.0 x) (edges.sound (get_or old h.0 x) (Contains-get_or old h.0 x lt)) (marks.marked h.0 x lt));
    complete = λ x m.
        let same : length new ≡ length old = marks.same_length in
        let e = mark_of m in
        let c : Contains old e.0 = edges.complete e.0 e.1 in
        let lt : c.0 < length old = c.1 in
        let is : get_or old c.0 x ≡ e.0 = get_or_default old c.0 x e.0 lt ∙ c.2 in
        (c.0, omega arith, one_mark e.0 (subst (λ (y : Edge). IsMarkOf functions y (get_or new c.0 x)) is (marks.marked c.0 x lt)) e.2);
  }
