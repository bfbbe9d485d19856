-- Entries, bodies and functions over lists are those of the definition.
use Rattle.std.proofs.Common.{◌≡◌, ◌↔◌, ℕ, ◌+◌, ◌<◌, ◌⊎◌, List, [], ◌∷◌, length, get_or, Option, false, refl, sym, ◌∙◌, subst, inl, inr, ⊎_elim, arith}
use Rattle.std.specs.List.{AllPairs, AllZip, Contains}
use Rattle.std.specs.List.Sorted.{IsStrictlyIncreasing}
use Rattle.std.proofs.lemmas.Bool.{cases_eq}
use Rattle.std.proofs.lemmas.List.{get_or_default}
use Rattle.std.proofs.lemmas.List.Elements.{Contains-get_or}
use Rattle.std.proofs.lemmas.List.Kept.{AllPairs-from_increasing}
use Rattle.cfg_model.specs.declared.graph.Block.{Block}
use Rattle.cfg_model.specs.declared.graph.Edge.{Edge}
use Rattle.cfg_model.specs.declared.graph.EdgeKind.{EdgeKind}
use Rattle.cfg_model.specs.declared.graph.EdgeKind.TheVariants as kinds
use Rattle.cfg_model.specs.declared.graph.Function.{Function}
use Rattle.cfg_model.specs.Program.Instructions.{InstructionMap}
use Rattle.cfg_model.specs.Program.Chain.{EndsChain}
use Rattle.cfg_model.specs.Program.Successors.{IsCall}
use Rattle.cfg_model.specs.Graph.Block.{IsBlockTo}
use Rattle.cfg_model.specs.Graph.Edge.{LeadsTo, IsEdge}
use Rattle.cfg_model.specs.Graph.Function.{IsEntry, InBody, IsFunction}
use Rattle.cfg_model.specs.Graph.Listing.{Lists}
use Rattle.cfg_model.specs.Graph.Graph.{FunctionBefore, IsOutline}
use Rattle.cfg_model.proofs.Graphs.Cover.{no_end_is_missed}
use Rattle.cfg_model.proofs.Graphs.Lists.{Contains-none, Contains-here, Contains-later, Contains-cons_cases, zip_at, zip_length}
use Rattle.cfg_model.proofs.Program.Known.{reached_along}
use Rattle.cfg_model.proofs.Graphs.OneGraph.{function_unique}
use Rattle.outline_funcs.specs.declared.exits.Exits.{Exits}
use Rattle.outline_funcs.specs.Listed.{AreOrdered, HaveEachEntry, TellsReturn}
use Rattle.outline_funcs.specs.Inner.Entries.{CallsTo, AreEntered, AreEntriesBy}
use Rattle.outline_funcs.specs.Inner.Exits.{AreExits, InBodyBy, IsEntered}
use Rattle.outline_funcs.specs.Inner.Bodies.{IsFunctionBy}
use Rattle.outline_funcs.proofs.Following.{edge_joined}
use Rattle.outline_funcs.proofs.Numbers.{number_of_block}
use Rattle.cfg_model.specs.Program.Status.{Returns}

listed_or_not : (xs : List ℕ) (a : ℕ) → Contains xs a ⊎ (Contains xs a → ⊥)
listed_or_not [] a = inr (λ h. Contains-none a h)
listed_or_not (x ∷ xs) a =
    elim (cases_eq x a) [
      | inl e ↦ inl (subst (Contains (x ∷ xs)) e (Contains-here x xs))
      | inr ne ↦ elim (listed_or_not xs a) [
        | inl h ↦ inl (Contains-later x xs a h)
        | inr none ↦ inr (λ h. ⊎_elim ne none (Contains-cons_cases x xs a h))
      ]
    ]

call_of : {map : InstructionMap} {k to : ℕ} {kind : EdgeKind} → kind ≡ kinds.Call → LeadsTo map (Returns map) k to kind → (fall : Option ℕ) × IsCall map k to fall
call_of e (LeadsTo.straight h) = cc
call_of e (LeadsTo.not_taken h) = cc
call_of e (LeadsTo.taken h) = cc
call_of e (LeadsTo.jump h) = cc
call_of e (LeadsTo.call {fall = fall} h) = (fall, h)
call_of e (LeadsTo.after_indirect h) = cc
call_of e (LeadsTo.after_call h back) = cc
call_of e (LeadsTo.table h c) = cc
call_of e (LeadsTo.landing calls c) = cc

module _ (map : InstructionMap) (seeds : List ℕ) (blocks : List Block) (edges : List Edge) (outline : IsOutline map seeds blocks edges) (entries : List ℕ) (are : AreEntriesBy edges seeds entries) where
  called_entry : (edge : Edge) (a : ℕ) → Contains edges edge → CallsTo edge a → IsEntry map seeds a
  called_entry edge a h calls =
      let is : IsEdge map seeds edge = outline.all_edges.sound edge h in
      let call = call_of calls.call is.leads in
      subst (IsEntry map seeds) (sym calls.target) (IsEntry.called (reached_along is.from.reached is.ends.runs) call.1)

  call_listed : (k a : ℕ) (fall : Option ℕ) → IsCall map k a fall → (block : Block) → Contains blocks block → IsBlockTo map seeds block k → Contains entries a
  call_listed k a fall call block h ends =
      let edge : Edge = record { from = block.start; to = a; kind = kinds.Call } in
      let is : IsEdge map seeds edge = record { last = k; from = ends.leader; ends = ends.last; leads = LeadsTo.call call } in
      (are.exact a).1 (inr (edge, outline.all_edges.complete edge is, record { call = refl; target = refl }))

  entry_listed : {a : ℕ} → IsEntry map seeds a → Contains entries a
  entry_listed {a} (IsEntry.seed s) = (are.exact a).1 (inl s)
  entry_listed {a} (IsEntry.called {k = k} {fall = fall} r call) =
      elim (listed_or_not entries a) [
        | inl h ↦ h
        | inr missing ↦ absurd
            (no_end_is_missed map seeds blocks outline.all_blocks k r (subst EndsChain (sym call) tt)
            (λ block h ends. missing (call_listed k a fall call block h ends)))
      ]

  pub entry_exact : (a : ℕ) → Contains entries a ↔ IsEntry map seeds a
  entry_exact a = (
    (λ h. ⊎_elim (λ s. IsEntry.seed s) (λ e. called_entry e.0 a e.1 e.2) ((are.exact a).0 h)),
    (λ is. entry_listed is),
  )

-- an increasing list, by neighbours
increases : (xs : List ℕ) → AllPairs ◌<◌ xs → IsStrictlyIncreasing xs
increases xs pairs = λ k lt. pairs k (k + 1) 0 (omega arith) lt

module _ (map : InstructionMap) (seeds : List ℕ) (exits : Exits) (outline : IsOutline map seeds exits.blocks.now exits.edges.now) (entries : List ℕ)
    (are : AreEntriesBy exits.edges.now seeds entries) (are_exits : AreExits exits) (marked : AreEntered exits.blocks.now entries exits.entered.items) where
  exact : (a : ℕ) → Contains entries a ↔ IsEntry map seeds a
  exact = entry_exact map seeds exits.blocks.now exits.edges.now outline entries are

  -- a function starts where an edge leads to exactly if an entry stands there
  entered_there : (edge : Edge) → Contains exits.edges.now edge → IsEntry map seeds edge.to → IsEntered exits edge.to
  entered_there edge h is =
      let at = number_of_block exits.blocks.now edge.to (edge_joined exits are_exits edge h).enters in
      record { number = at.0; numbered = at.1; marked = (marked.exact at.0 edge.to at.1).1 ((exact edge.to).1 is) }

  entry_there : (a : ℕ) → IsEntered exits a → IsEntry map seeds a
  entry_there a is = (exact a).0 ((marked.exact is.number a is.numbered).0 is.marked)

  body_sound : {entry a : ℕ} → InBodyBy exits entry a → InBody (IsEdge map seeds) (IsEntry map seeds) entry a
  body_sound InBody.entry = InBody.entry
  body_sound (InBody.along {edge = edge} h listed stays) = InBody.along (body_sound h) (outline.all_edges.sound edge listed) (record {
    no_call = stays.no_call;
    inside = ⊎_elim (λ same. inl same) (λ out. inr (λ is. out (entered_there edge listed is))) stays.inside;
  })

  body_complete : {entry a : ℕ} → InBody (IsEdge map seeds) (IsEntry map seeds) entry a → InBodyBy exits entry a
  body_complete InBody.entry = InBody.entry
  body_complete (InBody.along {edge = edge} h is stays) = InBody.along (body_complete h) (outline.all_edges.complete edge is) (record {
    no_call = stays.no_call;
    inside = ⊎_elim (λ same. inl same) (λ out. inr (λ entered. out (entry_there edge.to entered))) stays.inside;
  })

  function_is : (entry : ℕ) (f : Function) → Contains entries entry → IsFunctionBy (TellsReturn map) exits entry f → IsFunction map seeds f
  function_is entry f h w = record {
    entry = subst (IsEntry map seeds) (sym w.starts) ((exact entry).0 h);
    status = rw w.starts w.status;
    body = subst (λ x. Lists ◌<◌ (InBody (IsEdge map seeds) (IsEntry map seeds) x) f.body) (sym w.starts) (record {
      in_order = w.body.in_order;
      sound = λ a c. body_sound (w.body.sound a c);
      complete = λ a inside. w.body.complete a (body_complete inside);
    });
  }

  module _ (functions : List Function) (each : AllZip (IsFunctionBy (TellsReturn map) exits) entries functions) where
    long : length entries ≡ length functions
    long = zip_length (IsFunctionBy (TellsReturn map) exits) entries functions each

    each_at : (i : ℕ) (d : Function) → i < length entries → IsFunctionBy (TellsReturn map) exits (get_or entries i 0) (get_or functions i d)
    each_at i d lt = zip_at (IsFunctionBy (TellsReturn map) exits) entries functions i 0 d each lt

    functions_in_order : AllPairs FunctionBefore functions
    functions_in_order = λ i j d below within.
        let same : length entries ≡ length functions = long in
        let at : j < length entries = omega arith in
        let first : (get_or functions i d).entry ≡ get_or entries i 0 = (each_at i d (omega arith)).starts in
        let second : (get_or functions j d).entry ≡ get_or entries j 0 = (each_at j d at).starts in
        let up : get_or entries i 0 < get_or entries j 0 = AllPairs-from_increasing entries are.rising i j 0 below at in
        omega arith

    functions_sound : (f : Function) → Contains functions f → IsFunction map seeds f
    functions_sound f h =
        let same : length entries ≡ length functions = long in
        let at : h.0 < length functions = h.1 in
        let here : h.0 < length entries = omega arith in
        subst (IsFunction map seeds) h.2 (function_is (get_or entries h.0 0) (get_or functions h.0 f) (Contains-get_or entries h.0 0 here) (each_at h.0 f here))

    functions_complete : (f : Function) → IsFunction map seeds f → Contains functions f
    functions_complete f is =
        let same : length entries ≡ length functions = long in
        let c : Contains entries f.entry = (exact f.entry).1 is.entry in
        let here : c.0 < length entries = c.1 in
        let at : c.0 < length functions = omega arith in
        let entry : get_or entries c.0 0 ≡ f.entry = get_or_default entries c.0 0 f.entry here ∙ c.2 in
        let w = each_at c.0 f here in
        let other : IsFunction map seeds (get_or functions c.0 f) = function_is (get_or entries c.0 0) (get_or functions c.0 f) (Contains-get_or entries c.0 0 here) w in
        (c.0, at, function_unique map seeds (get_or functions c.0 f) f other is (w.starts ∙ entry))

    pub each_entry : HaveEachEntry map seeds functions
    each_entry a is =
        let same : length entries ≡ length functions = long in
        let c : Contains entries a = (exact a).1 is in
        let here : c.0 < length entries = c.1 in
        let f : Function = record { entry = a; returns = false; body = [] } in (
          get_or functions c.0 f,
          Contains-get_or functions c.0 f (omega arith),
          (each_at c.0 f here).starts ∙ (get_or_default entries c.0 0 a here ∙ c.2),
        )

    pub functions_exact : Lists FunctionBefore (IsFunction map seeds) functions
    functions_exact = record { in_order = functions_in_order; sound = functions_sound; complete = functions_complete }

    pub functions_ordered : AreOrdered functions
    functions_ordered = record {
      entries = functions_in_order;
      bodies = λ i d lt. let same : length entries ≡ length functions = long in increases (get_or functions i d).body (each_at i d (omega arith)).body.in_order;
    }
