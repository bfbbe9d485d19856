-- What holds of the program counter and the frames of an orderly run.
use Rattle.std.proofs.Common.{◌≡◌, ℕ, ◌⊎◌, true, false, List, [], ◌∷◌, ◌++◌, Option, Some, None, Contains, IsSome, is_some, option_to_list, refl, sym, ap, ◌∙◌, subst, inl, inr}
use Rattle.std.proofs.lemmas.List.Elements.{Contains-append_left, Contains-append_right}
use Rattle.cfg_model.specs.declared.flow.Flow.{Flow}
use Rattle.cfg_model.specs.declared.flow.Flow.TheVariants as flows
use Rattle.cfg_model.specs.declared.graph.Graph.{Graph}
use Rattle.std.specs.Option.{option_map}
use Rattle.cfg_model.specs.Program.Instructions.{Instruction, InstructionMap, flow_at, targets_at}
use Rattle.cfg_model.specs.Program.Successors.{IsSuccessor, IsCall, Calls, LeavesFunction, successors_by, successors_of_flow}
use Rattle.cfg_model.specs.Program.Status.{Returns}
use Rattle.cfg_model.specs.Program.Reach.{Reached}
use Rattle.cfg_model.specs.Graph.Function.{IsEntry}
use Rattle.cfg_model.specs.Graph.Graph.{IsGraph}
use Rattle.cfg_model.proofs.Program.Known.{successor_from_flow}
use Rattle.cfg_model.proofs.Program.Landing.{landing_follows}
use Rattle.cfg_model.proofs.Program.Listed.{head_in, none_in}
use Rattle.run_laws.specs.Frames.{Frame, running, return_address}
use Rattle.run_laws.specs.Orderly.{IsEntryIn, EntersFunction, GoesBySelf, IsOrderly}
use Rattle.run_laws.proofs.Goes.{GoesTo}

-- an instruction with this flow may call this entry
abbrev pub CallsTo : ℕ → Option Flow → Type 0
CallsTo entry (Some (flows.Call target fall)) = entry ≡ target
CallsTo entry (Some (flows.IndirectCall fall)) = Unit {0}
CallsTo entry _ = ⊥

may_call : (entry : ℕ) (o : Option Flow) → CallsTo entry o → Calls o
may_call entry None calls = absurd calls
may_call entry (Some (flows.Straight next)) calls = absurd calls
may_call entry (Some (flows.Branch taken fall)) calls = absurd calls
may_call entry (Some (flows.Jump target)) calls = absurd calls
may_call entry (Some (flows.Call target fall)) calls = tt
may_call entry (Some (flows.IndirectCall fall)) calls = tt
may_call entry (Some (flows.Table entries full is_open)) calls = absurd calls
may_call entry (Some flows.Return) calls = absurd calls
may_call entry (Some flows.Unknown) calls = absurd calls
may_call entry (Some flows.Stop) calls = absurd calls

-- a call that returns nowhere
no_address : {to : ℕ} → ◌≡◌ {A = Option ℕ} None (Some to) → ⊥
no_address e = cc

-- an instruction stands at an address that returns
has_flow : {map : InstructionMap} {a : ℕ} → Returns map a → flow_at map a ≡ None → ⊥
has_flow (Returns.by_itself leaves) none = subst LeavesFunction none leaves
has_flow {map} {a} (Returns.onward {b = b} way back) none = none_in b (subst (λ o. Contains (successors_of_flow (targets_at map a) o) b) none way)
has_flow (Returns.past_call call back fall) none = no_call (sym none ∙ call)
  where
    no_call : {flow : Flow} → ◌≡◌ {A = Option Flow} None (Some flow) → ⊥
    no_call e = cc

returns_stand : {map : InstructionMap} {a : ℕ} → Returns map a → IsSome (map a)
returns_stand {map} {a} back = by (map a) refl
  where
    by : (o : Option Instruction) → map a ≡ o → IsSome o
    by None e = absurd (has_flow back (ap (λ o. option_map (λ (i : Instruction). i.flow) o) e))
    by (Some i) e = refl

-- a program and its graph
module _ (map : InstructionMap) (seeds : List ℕ) (begin : ℕ) where
  -- a frame is that of a reached call; and if the call returns, so does the function that made it
  abbrev pub IsFrame : Frame → List Frame → Type 0
  IsFrame frame below = Reached map seeds frame.call × CallsTo frame.entry (flow_at map frame.call) × (Returns map frame.call → Returns map (running begin below))

  abbrev pub FramesFit : List Frame → Type 0
  FramesFit [] = Unit {0}
  FramesFit (frame ∷ below) = IsFrame frame below × FramesFit below

  -- what holds at an address with these frames
  pub record Holds (pc : ℕ) (frames : List Frame) : Type 0 where
    pub reached : IsSome (map pc) → Reached map seeds pc
    pub returns : Returns map pc → Returns map (running begin frames)
    pub fit : FramesFit frames

  fit_below : (above : List Frame) (frame : Frame) (below : List Frame) → FramesFit (above ++ frame ∷ below) → FramesFit (frame ∷ below)
  fit_below [] frame below fit = fit
  fit_below (other ∷ above) frame below fit = fit_below above frame below fit.1

  entry_reached : (graph : Graph) (entry : ℕ) → IsGraph map seeds entry graph → (a : ℕ) → IsEntryIn graph a → Reached map seeds a
  entry_reached graph entry is a has = subst (Reached map seeds) has.is (by (is.functions.sound has.function has.listed).entry)
    where
      by : {a : ℕ} → IsEntry map seeds a → Reached map seeds a
      by (IsEntry.seed among) = Reached.seed among
      by (IsEntry.called from call) = Reached.called from call

  -- what holds where a run begins
  pub at_begin : (graph : Graph) (entry : ℕ) → IsGraph map seeds entry graph → Contains seeds begin ⊎ IsEntryIn graph begin → Holds begin []
  at_begin graph entry is (inl among) = record { reached = λ there. Reached.seed among; returns = λ back. back; fit = tt }
  at_begin graph entry is (inr has) = record { reached = λ there. entry_reached graph entry is begin has; returns = λ back. back; fit = tt }

  module _ (from to : ℕ) (reached : Reached map seeds from) (goes : (flow : Flow) → flow_at map from ≡ Some flow → GoesTo map (targets_at map from) to flow) where
    -- on by a successor, with the same frames
    by_successor : {frames : List Frame} → Holds from frames → IsSuccessor map from to → Holds to frames
    by_successor holds way = record { reached = λ there. Reached.onward reached way; returns = λ back. holds.returns (Returns.onward way back); fit = holds.fit }

    successor : (flow : Flow) → flow_at map from ≡ Some flow → Contains (successors_by (targets_at map from) flow) to → IsSuccessor map from to
    successor flow at among = successor_from_flow map from flow at to among

    among_some : (o : Option ℕ) → o ≡ Some to → Contains (option_to_list o) to
    among_some o e = subst (λ o. Contains (option_to_list o) to) (sym e) (head_in to [])

    nowhere : {frames : List Frame} → Holds from frames → map to ≡ None → Holds to frames
    nowhere {frames} holds none = record { reached = λ there. absurd (no there); returns = λ back. absurd (no (returns_stand back)); fit = holds.fit }
      where
        no : IsSome (map to) → ⊥
        no there = clash (sym (ap (λ o. is_some o) none) ∙ there)
          where
            clash : false ≡ true → ⊥
            clash e = cc

    by_self : {frames : List Frame} → Holds from frames → (flow : Flow) → flow_at map from ≡ Some flow → GoesBySelf flow → GoesTo map (targets_at map from) to flow → Holds to frames
    by_self holds (flows.Straight next) at self way = by_successor holds (successor (flows.Straight next) at (subst (λ n. Contains (n ∷ []) to) way (head_in to [])))
    by_self holds (flows.Branch taken fall) at self (inl (inl e)) =
        by_successor holds (successor (flows.Branch taken fall) at (Contains-append_left (option_to_list taken) (option_to_list fall) to (among_some taken e)))
    by_self holds (flows.Branch taken fall) at self (inl (inr e)) =
        by_successor holds (successor (flows.Branch taken fall) at (Contains-append_right (option_to_list taken) (option_to_list fall) to (among_some fall e)))
    by_self holds (flows.Branch taken fall) at self (inr out) = nowhere holds out.0
    by_self holds (flows.Jump target) at self way = by_successor holds (successor (flows.Jump target) at (subst (λ n. Contains (n ∷ []) to) way (head_in to [])))
    by_self holds (flows.Call target fall) at self way = absurd self
    by_self holds (flows.IndirectCall fall) at self way = absurd self
    by_self holds (flows.Table entries true false) at self way = by_successor holds (successor (flows.Table entries true false) at way)
    by_self holds (flows.Table entries true true) at self way = absurd self
    by_self holds (flows.Table entries false is_open) at self way = absurd self
    by_self holds flows.Return at self way = absurd self
    by_self holds flows.Unknown at self way = absurd self
    by_self holds flows.Stop at self way = nowhere holds way

    -- a function's entry is reached
    entered : (graph : Graph) (entry : ℕ) → IsGraph map seeds entry graph → EntersFunction map graph to → IsSome (map to) → Reached map seeds to
    entered graph entry is enters there = entry_reached graph entry is to (enters there)

    -- back at the address after the call of the last frame
    comes_back : (frame : Frame) (below : List Frame) → IsFrame frame below → FramesFit below → Returns map frame.entry → (o : Option Flow) → flow_at map frame.call ≡ o → return_address o ≡ Some to → Holds to below
    comes_back frame below is fit back None at behind = absurd (no_address behind)
    comes_back frame below is fit back (Some (flows.Call target fall)) at behind =
        let call : IsCall map frame.call target (Some to) = at ∙ ap (λ o. Some (flows.Call target o)) behind in
        let entry : frame.entry ≡ target = subst (CallsTo frame.entry) at is.1 in
        let returns : Returns map target = subst (Returns map) entry back in
        record { reached = λ there. Reached.past_call is.0 call returns; returns = λ after. is.2 (Returns.past_call call returns after); fit = fit }
    comes_back frame below is fit back (Some (flows.IndirectCall fall)) at behind =
        let way = successor_from_flow map frame.call (flows.IndirectCall fall) at to (Contains-append_left (option_to_list fall) (targets_at map frame.call) to (among_some fall behind)) in
        record { reached = λ there. Reached.onward is.0 way; returns = λ after. is.2 (Returns.onward way after); fit = fit }
    comes_back frame below is fit back (Some other) at behind = absurd (no_address behind)

    pub steps_on : (graph : Graph) (entry : ℕ) → IsGraph map seeds entry graph → {before after : List Frame} → Holds from before → IsOrderly map graph from to before after → Holds to after
    steps_on graph entry is holds (IsOrderly.onward {f = flow} at self) = by_self holds flow at self (goes flow at)
    steps_on graph entry is holds (IsOrderly.by_table {entries = entries} {full = full} {is_open = is_open} at kept) = by_successor holds (successor (flows.Table entries full is_open) at kept)
    steps_on graph entry is holds (IsOrderly.by_register at enters) =
        record { reached = entered graph entry is enters; returns = λ back. holds.returns (Returns.by_itself (subst LeavesFunction (sym at) tt)); fit = holds.fit }
    steps_on graph entry is holds (IsOrderly.calls {target = target} {fall = fall} call) =
        let same : to ≡ target = goes (flows.Call target fall) call in
        record {
          reached = λ there. subst (Reached map seeds) (sym same) (Reached.called reached call);
          returns = λ back. back;
          fit = ((reached, subst (CallsTo to) (sym call) same, holds.returns), holds.fit);
        }
    steps_on graph entry is holds (IsOrderly.calls_by_register at enters) =
        record { reached = entered graph entry is enters; returns = λ back. back; fit = ((reached, subst (CallsTo to) (sym at) tt, holds.returns), holds.fit) }
    steps_on graph entry is holds (IsOrderly.returns {before = before} {after = after} taken) =
        let here : Holds from (taken.frame ∷ after) = subst (Holds from) taken.last holds in
        comes_back taken.frame after here.fit.0 here.fit.1 (here.returns (Returns.by_itself (subst LeavesFunction (sym taken.returns) tt))) (flow_at map taken.frame.call) refl taken.behind
    steps_on graph entry is holds (IsOrderly.unwinds {before = before} {after = after} thrown) =
        let here : Holds from (thrown.above ++ thrown.frame ∷ after) = subst (Holds from) thrown.some holds in
        let fit : FramesFit (thrown.frame ∷ after) = fit_below thrown.above thrown.frame after here.fit in
        let way = landing_follows map thrown.frame.call to (may_call thrown.frame.entry (flow_at map thrown.frame.call) fit.0.1) thrown.pad in
        record { reached = λ there. Reached.onward fit.0.0 way; returns = λ back. fit.0.2 (Returns.onward way back); fit = fit.1 }
