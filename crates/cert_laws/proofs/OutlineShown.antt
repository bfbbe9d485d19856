-- The outline that lines tell is that of the program whose leaders and returns they list.
use Rattle.std.proofs.Common.{◌≡◌, ℕ, List, [], Option, Some, None, ap, inl, inr}
use Rattle.std.specs.Prelude.{◌⊎◌, Contains}
use Rattle.cfg_model.specs.declared.flow.Flow.{Flow}
use Rattle.cfg_model.specs.declared.flow.Flow.TheVariants.{Straight, Branch, Jump, Call, IndirectCall, Table, Return, Unknown, Stop}
use Rattle.cfg_model.specs.declared.graph.Block.{Block}
use Rattle.cfg_model.specs.declared.graph.Edge.{Edge}
use Rattle.cfg_model.specs.Program.Instructions.{InstructionMap, flow_at, targets_at}
use Rattle.cfg_model.specs.Program.Chain.{OnChain, EndsChain, IsTerminatorOf}
use Rattle.cfg_model.specs.Program.Meeting.{IsStop}
use Rattle.cfg_model.specs.Program.Successors.{LeavesFunction, successors_of_flow}
use Rattle.cfg_model.specs.Program.Status.{Returns}
use Rattle.cfg_model.specs.Program.Reach.{Reached}
use Rattle.cfg_model.specs.Graph.Block.{RunsTo, IsLastOf, IsBlock}
use Rattle.cfg_model.specs.Graph.Edge.{IsEdge}
use Rattle.cfg_model.specs.Graph.Leader.{IsLeader}
use Rattle.cfg_model.proofs.Program.Listed.{none_in, in_cases}
use Rattle.cfg_model.proofs.Program.Along.{returns_along}
use Rattle.cfg_model.proofs.Graphs.LeaderFacts.{reached_along}
use Rattle.cfg_model.proofs.Graphs.WaysOn.{leads_same}
use Rattle.cert_text.specs.declared.certificate.Part.{Part}
use Rattle.cert_laws.specs.Lines.{IsLead, IsReturn}
use Rattle.cert_laws.specs.Ways.{EndsIn}
use Rattle.cert_laws.specs.Shown.{ShowsLines}
use Rattle.cert_laws.proofs.ShowsGraph.{call_ends}
use Rattle.cert_laws.specs.Told.{IsBlockTold, IsEdgeTold, ToldOutlineIsShown}

-- ---- an instruction with a successor ends its chain, or goes on to it

goes_or_ends : (kept : List ℕ) (o : Option Flow) (b : ℕ) → Contains (successors_of_flow kept o) b → EndsChain o ⊎ (o ≡ Some (Straight b))
goes_or_ends kept None b c = absurd (none_in b c)
goes_or_ends kept (Some (Straight next)) b c = elim (in_cases next [] b c) [
  | inl same ↦ inr (ap (λ n. Some (Straight n)) same)
  | inr none ↦ absurd (none_in b none)
]
goes_or_ends kept (Some (Branch taken fall)) b c = inl tt
goes_or_ends kept (Some (Jump target)) b c = inl tt
goes_or_ends kept (Some (Call target fall)) b c = inl tt
goes_or_ends kept (Some (IndirectCall fall)) b c = inl tt
goes_or_ends kept (Some (Table entries full is_open)) b c = inl tt
goes_or_ends kept (Some Return) b c = inl tt
goes_or_ends kept (Some Unknown) b c = inl tt
goes_or_ends kept (Some Stop) b c = inl tt

leaving_ends : (o : Option Flow) → LeavesFunction o → EndsChain o
leaving_ends None h = absurd h
leaving_ends (Some (Straight next)) h = absurd h
leaving_ends (Some (Branch taken fall)) h = tt
leaving_ends (Some (Jump target)) h = tt
leaving_ends (Some (Call target fall)) h = tt
leaving_ends (Some (IndirectCall fall)) h = tt
leaving_ends (Some (Table entries full is_open)) h = tt
leaving_ends (Some Return) h = tt
leaving_ends (Some Unknown) h = tt
leaving_ends (Some Stop) h = tt

-- ---- the end of the chain of an address that returns, returns

record ReturningEnd (map : InstructionMap) (a : ℕ) : Type 0 where
  end : ℕ
  ends : IsTerminatorOf map a end
  returns : Returns map end

at_itself : (map : InstructionMap) (a : ℕ) → EndsChain (flow_at map a) → Returns map a → ReturningEnd map a
at_itself map a ends returns = record { end = a; ends = record { reaches = OnChain.here; ends = ends }; returns = returns }

returning_end : {map : InstructionMap} {a : ℕ} → Returns map a → ReturningEnd map a
returning_end {map} (Returns.by_itself {a = a} itself) = at_itself map a (leaving_ends (flow_at map a) itself) (Returns.by_itself itself)
returning_end {map} (Returns.onward {a = a} {b = b} successor back) = elim (goes_or_ends (targets_at map a) (flow_at map a) b successor) [
  | inl ends ↦ at_itself map a ends (Returns.onward successor back)
  | inr goes ↦
      let e = returning_end back in
      record { end = e.end; ends = record { reaches = OnChain.on goes e.ends.reaches; ends = e.ends.ends }; returns = e.returns }
]
returning_end {map} (Returns.past_call {a = a} {target = target} {fall = fall} call back behind) =
    at_itself map a (call_ends map a target (Some fall) call) (Returns.past_call call back behind)

-- ---- runs and stops where blocks are cut at the same addresses

module _ (map : InstructionMap) (One Other : ℕ → Type 0) (there : (a : ℕ) → One a → Other a) (back : (a : ℕ) → Other a → One a) where
  runs_as : {s k : ℕ} → RunsTo map One s k → RunsTo map Other s k
  runs_as RunsTo.here = RunsTo.here
  runs_as (RunsTo.on {next = next} goes none rest) = RunsTo.on goes (λ other. none (back next other)) (runs_as rest)

  stops_as : (k : ℕ) → IsStop map One k → IsStop map Other k
  stops_as k (inl ends) = inl ends
  stops_as k (inr goes) = inr (goes.0, goes.1, there goes.0 goes.2)

  last_as : (s k : ℕ) → IsLastOf map One s k → IsLastOf map Other s k
  last_as s k last = record { runs = runs_as last.runs; stops = stops_as k last.stops }

runs_chain : {map : InstructionMap} {IsCut : ℕ → Type 0} {s k : ℕ} → RunsTo map IsCut s k → OnChain map s k
runs_chain RunsTo.here = OnChain.here
runs_chain (RunsTo.on goes none rest) = OnChain.on goes (runs_chain rest)

-- ---- what lines show

module _ (map : InstructionMap) (seeds : List ℕ) (part : Part) (shows : ShowsLines map seeds part) where
  -- A reached address ends in a listed return exactly if it returns.

  pub ends_return : (a : ℕ) → EndsIn map (IsReturn part.returns) a → Returns map a
  ends_return a ends = returns_along ends.ends.reaches ((shows.returns ends.end).0 ends.among).1

  pub return_ends : (a : ℕ) → Reached map seeds a → Returns map a → EndsIn map (IsReturn part.returns) a
  return_ends a reached returns =
      let e = returning_end returns in
      record {
        end = e.end;
        ends = e.ends;
        among = (shows.returns e.end).1 (record { reached = reached_along reached e.ends.reaches; ends = e.ends.ends }, e.returns);
      }

  to_leaders : (s k : ℕ) → IsLastOf map (IsLead part.leads) s k → IsLastOf map (IsLeader map seeds) s k
  to_leaders = last_as map (IsLead part.leads) (IsLeader map seeds) (λ a. (shows.leads a).0) (λ a. (shows.leads a).1)

  to_leads : (s k : ℕ) → IsLastOf map (IsLeader map seeds) s k → IsLastOf map (IsLead part.leads) s k
  to_leads = last_as map (IsLeader map seeds) (IsLead part.leads) (λ a. (shows.leads a).1) (λ a. (shows.leads a).0)

  block_is : (block : Block) → IsBlockTold map part.leads block → IsBlock map seeds block
  block_is block told = (told.last, record { leader = (shows.leads block.start).0 told.leader; last = to_leaders block.start told.last told.ends; of = told.of })

  block_told : (block : Block) → IsBlock map seeds block → IsBlockTold map part.leads block
  block_told block is = record { last = is.0; leader = (shows.leads block.start).1 is.1.leader; ends = to_leads block.start is.0 is.1.last; of = is.1.of }

  edge_is : (edge : Edge) → IsEdgeTold map part edge → IsEdge map seeds edge
  edge_is edge told = record {
    last = told.last;
    from = (shows.leads edge.from).0 told.from;
    ends = to_leaders edge.from told.last told.ends;
    leads = leads_same (λ target fall call. ends_return target) told.leads_to;
  }

  edge_told : (edge : Edge) → IsEdge map seeds edge → IsEdgeTold map part edge
  edge_told edge is = record {
    last = is.last;
    from = (shows.leads edge.from).1 is.from;
    ends = to_leads edge.from is.last is.ends;
    leads_to = leads_same (λ target fall call. return_ends target (Reached.called (reached_along is.from.reached (runs_chain is.ends.runs)) call)) is.leads;
  }

pub told-outline-is-shown : ToldOutlineIsShown
told-outline-is-shown map seeds part blocks edges lawful shows told = record {
  all_blocks = record {
    in_order = told.all_blocks.in_order;
    sound = λ block listed. block_is map seeds part shows block (told.all_blocks.sound block listed);
    complete = λ block is. told.all_blocks.complete block (block_told map seeds part shows block is);
  };
  all_edges = record {
    in_order = told.all_edges.in_order;
    sound = λ edge listed. edge_is map seeds part shows edge (told.all_edges.sound edge listed);
    complete = λ edge is. told.all_edges.complete edge (edge_told map seeds part shows edge is);
  };
}
