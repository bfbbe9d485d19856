-- The outline that is made of a valid part is that of the program.
use Rattle.std.proofs.Common.{◌≡◌, ℕ, ◌+◌, ◌<◌, List, [], ◌∷◌, ◌++◌, length, get_or, refl, sym, ap, ◌∙◌, subst, below_more, inl, inr, arith}
use Rattle.std.specs.Prelude.{All, Contains, Option, Some, None, IsSome}
use Rattle.std.proofs.lemmas.List.{get_or_default, get_or_push, get_or_append_left, length_push}
use Rattle.std.proofs.lemmas.List.Elements.{All-contains}
use Rattle.cfg_model.specs.declared.flow.Flow.{Flow}
use Rattle.cfg_model.specs.declared.flow.Flow.TheVariants.{Straight, Branch, Jump, Call, IndirectCall, Table, Return, Unknown, Stop}
use Rattle.cfg_model.specs.declared.graph.Block.{Block}
use Rattle.cfg_model.specs.declared.graph.Edge.{Edge}
use Rattle.cfg_model.specs.declared.graph.EndKind.TheVariants.{Fall}
use Rattle.cfg_model.specs.declared.graph.Outline.{Outline}
use Rattle.cfg_model.specs.Program.Instructions.{InstructionMap, IsLawful, flow_at, targets_at}
use Rattle.cfg_model.specs.Program.Chain.{EndsChain, GoesOnTo, IsTerminator, IsTerminatorOf, OnChain}
use Rattle.cfg_model.specs.Program.Successors.{LeavesFunction, successors_of_flow}
use Rattle.cfg_model.specs.Program.Status.{Returns}
use Rattle.cfg_model.specs.Program.Reach.{Reached}
use Rattle.cfg_model.specs.Graph.Block.{IsBlock, IsBlockOf, IsLastOf, RunsTo}
use Rattle.cfg_model.specs.Graph.Edge.{IsEdge}
use Rattle.cfg_model.specs.Graph.Function.{IsEntry}
use Rattle.cfg_model.specs.Graph.Graph.{IsOutline}
use Rattle.cfg_model.specs.Graph.Leader.{IsLeader}
use Rattle.cfg_model.proofs.Program.Listed.{in_cases, none_in}
use Rattle.cfg_model.proofs.Program.Along.{returns_along}
use Rattle.cfg_model.proofs.Graphs.LeaderFacts.{reached_along}
use Rattle.cfg_model.proofs.Program.Known.{target_known}
use Rattle.cfg_model.proofs.Graphs.OneBlock.{block_unique}
use Rattle.cfg_model.proofs.Graphs.WaysOn.{leads_same}
use Rattle.cert_text.specs.declared.lines.LeadLine.{LeadLine}
use Rattle.cert_text.specs.declared.certificate.Part.{Part}
use Rattle.cert_laws.specs.Lines.{IsLead, IsReturn}
use Rattle.cert_laws.specs.Ways.{EndsIn}
use Rattle.cert_laws.specs.Valid.{IsValid}
use Rattle.cert_laws.specs.Shown.{ShowsLines}
use Rattle.cert_laws.proofs.ShowsGraph.{call_ends, valid_shows_graph}
use Rattle.cert_ends.specs.Places.{AreLeads, ReturnsRise}
use Rattle.cert_ends.proofs.Placed.{lead_at, lead_known, no_lead, one_address, place_at, place_of_lead, part_leads, part_returns}
use Rattle.cert_check.specs.declared.blocks.Run.{Run}
use Rattle.cert_check.specs.Inner.Blocks.{AreRuns, IsRun}
use Rattle.cert_check.specs.Inner.Outlined.{AreMade, AreOutlined}
use Rattle.cert_check.specs.Inner.Ways.{AreWays, IsWay}
use Rattle.cert_check.proofs.Along.{nowhere, run_chain}

-- blocks that are cut at the same addresses

module _ (map : InstructionMap) (IsCut Other : ℕ → Type 0) (there : (a : ℕ) → IsCut a → Other a) (back : (a : ℕ) → Other a → IsCut a) where
  runs_same : {s k : ℕ} → RunsTo map IsCut s k → RunsTo map Other s k
  runs_same RunsTo.here = RunsTo.here
  runs_same (RunsTo.on {next = next} goes none rest) = RunsTo.on goes (λ other. none (back next other)) (runs_same rest)

  pub last_same : (s k : ℕ) → IsLastOf map IsCut s k → IsLastOf map Other s k
  last_same s k last = record {
    runs = runs_same last.runs;
    stops = elim last.stops [
      | inl ends ↦ inl ends
      | inr into ↦ inr (into.0, into.1, there into.0 into.2)
    ];
  }

-- an address that returns has an end that does

pub record EndsReturning (map : InstructionMap) (a : ℕ) : Type 0 where
  pub end : ℕ
  pub ends : IsTerminatorOf map a end
  pub returns : Returns map end

leaving_ends : (o : Option Flow) → LeavesFunction o → EndsChain o
leaving_ends None h = absurd h
leaving_ends (Some (Straight next)) h = absurd h
leaving_ends (Some (Branch taken fall)) h = tt
leaving_ends (Some (Jump target)) h = tt
leaving_ends (Some (Call target fall)) h = tt
leaving_ends (Some (IndirectCall fall)) h = tt
leaving_ends (Some (Table entries full is_open)) h = tt
leaving_ends (Some Return) h = tt
leaving_ends (Some Unknown) h = tt
leaving_ends (Some Stop) h = tt

here_ends : (map : InstructionMap) (a : ℕ) → IsTerminator map a → Returns map a → EndsReturning map a
here_ends map a ends returns = record { end = a; ends = record { reaches = OnChain.here; ends = ends }; returns = returns }

further : (map : InstructionMap) (a b : ℕ) (o : Option Flow) → flow_at map a ≡ o → Contains (successors_of_flow (targets_at map a) o) b → Returns map a → EndsReturning map b → EndsReturning map a
further map a b None e c returns more = absurd (none_in b c)
further map a b (Some (Straight next)) e c returns more = elim (in_cases next [] b c) [
  | inl same ↦
      let goes : GoesOnTo map a b = subst (λ z. GoesOnTo map a z) same e in
      record { end = more.end; ends = record { reaches = OnChain.on goes more.ends.reaches; ends = more.ends.ends }; returns = more.returns }
  | inr none ↦ absurd (none_in b none)
]
further map a b (Some (Branch taken fall)) e c returns more = here_ends map a (subst EndsChain (sym e) tt) returns
further map a b (Some (Jump target)) e c returns more = here_ends map a (subst EndsChain (sym e) tt) returns
further map a b (Some (Call target fall)) e c returns more = here_ends map a (subst EndsChain (sym e) tt) returns
further map a b (Some (IndirectCall fall)) e c returns more = here_ends map a (subst EndsChain (sym e) tt) returns
further map a b (Some (Table entries full is_open)) e c returns more = here_ends map a (subst EndsChain (sym e) tt) returns
further map a b (Some Return) e c returns more = here_ends map a (subst EndsChain (sym e) tt) returns
further map a b (Some Unknown) e c returns more = here_ends map a (subst EndsChain (sym e) tt) returns
further map a b (Some Stop) e c returns more = here_ends map a (subst EndsChain (sym e) tt) returns

pub end_of : {map : InstructionMap} {a : ℕ} → Returns map a → EndsReturning map a
end_of {map} (Returns.by_itself {a = a} itself) = here_ends map a (leaving_ends (flow_at map a) itself) (Returns.by_itself itself)
end_of {map} (Returns.onward {a = a} {b = b} successor back) = further map a b (flow_at map a) refl successor (Returns.onward successor back) (end_of back)
end_of {map} (Returns.past_call {a = a} {target = target} {fall = fall} call back behind) = here_ends map a (call_ends map a target (Some fall) call) (Returns.past_call call back behind)

-- the blocks of the first so many leaders

pub none_made : (map : InstructionMap) (leads : List LeadLine) (runs : List Run) → AreMade map leads runs 0 []
none_made map leads runs = record { as_many = refl; each = λ i l r b lt. absurd (omega arith) }

pub more_made : (map : InstructionMap) (leads : List LeadLine) (runs : List Run) (i : ℕ) (old new : List Block) (block : Block) (s last : ℕ)
    → i < length leads → i < length runs → s ≡ (get_or leads i no_lead).at → last ≡ (get_or runs i nowhere).last
    → AreMade map leads runs i old → new ≡ old ++ block ∷ [] → IsBlockOf map s last block → AreMade map leads runs (i + 1) new
more_made map leads runs i old new block s last within inside start ends are is of = record {
  as_many = ap length is ∙ length_push old block ∙ ap (λ n. n + 1) are.as_many;
  each = λ j l r b lt.
      below_more (λ (k : ℕ). IsBlockOf map (get_or leads k l).at (get_or runs k r).last (get_or new k b)) i
      (λ k below. subst (IsBlockOf map (get_or leads k l).at (get_or runs k r).last) (sym (ap (λ (xs : List Block). get_or xs k b) is ∙ get_or_append_left old (block ∷ []) b k (omega (arith, are.as_many, below)))) (are.each k l r b below))
      (subst (IsBlockOf map (get_or leads i l).at (get_or runs i r).last) (sym (ap (λ (xs : List Block). get_or xs i b) is ∙ get_or_push old block b i are.as_many))
      (subst (λ z. IsBlockOf map z (get_or runs i r).last block) (start ∙ ap (λ (x : LeadLine). x.at) (get_or_default leads i no_lead l within))
      (subst (λ z. IsBlockOf map s z block) (ends ∙ ap (λ (x : Run). x.last) (get_or_default runs i nowhere r inside)) of)))
      j lt;
}

module _ (map : InstructionMap) (seeds : List ℕ) (part : Part) (lawful : IsLawful map) (valid : IsValid map seeds part) (rise : AreLeads map part.leads) where
  shows : ShowsLines map seeds part
  shows = valid_shows_graph map seeds part lawful valid

  leads_there : (a : ℕ) → IsLead part.leads a → IsLeader map seeds a
  leads_there a = (shows.leads a).0

  leads_back : (a : ℕ) → IsLeader map seeds a → IsLead part.leads a
  leads_back a = (shows.leads a).1

  -- a listed return at the end is a return

  pub listed_returns : (a : ℕ) → EndsIn map (IsReturn part.returns) a → Returns map a
  listed_returns a h = returns_along h.ends.reaches ((shows.returns h.end).0 h.among).1

  pub returns_listed : (a : ℕ) → Reached map seeds a → Returns map a → EndsIn map (IsReturn part.returns) a
  returns_listed a reached back =
      let found = end_of back in
      record {
        end = found.end;
        ends = found.ends;
        among = (shows.returns found.end).1 (record { reached = reached_along reached found.ends.reaches; ends = found.ends.ends }, found.returns);
      }

  -- entries stand in the code, and return if their chains end in listed returns

  pub entry_reached : (a : ℕ) → IsEntry map seeds a → Reached map seeds a
  entry_reached a (IsEntry.seed h) = Reached.seed h
  entry_reached a (IsEntry.called reached call) = Reached.called reached call

  pub seed_stands : (a : ℕ) → Contains seeds a → IsSome (map a)
  seed_stands a h =
      let lead : IsLead part.leads a = All-contains (IsLead part.leads) seeds a valid.seeds_lead h in
      let place = place_of_lead part.leads a lead in
      lead_known map part.leads rise place.0 a place.1

  pub entry_stands : (a : ℕ) → IsEntry map seeds a → IsSome (map a)
  entry_stands a (IsEntry.seed h) = seed_stands a h
  entry_stands a (IsEntry.called {k = k} reached call) = target_known map lawful k a call

  -- edges

  pub way_edge : (edge : Edge) → IsWay map part.leads part.returns edge → IsEdge map seeds edge
  way_edge edge way = record {
    last = way.last;
    from = leads_there edge.from way.from;
    ends = last_same map (IsLead part.leads) (IsLeader map seeds) leads_there leads_back edge.from way.last way.ends;
    leads = leads_same (λ target fall call back. listed_returns target back) way.leads_to;
  }

  pub edge_way : (edge : Edge) → IsEdge map seeds edge → IsWay map part.leads part.returns edge
  edge_way edge is =
      let reached : Reached map seeds is.last = reached_along is.from.reached (run_chain is.ends.runs) in
      record {
        last = is.last;
        from = leads_back edge.from is.from;
        ends = last_same map (IsLeader map seeds) (IsLead part.leads) leads_back leads_there edge.from is.last is.ends;
        leads_to = leads_same (λ target fall call back. returns_listed target (Reached.called reached call) back) is.leads;
      }

  -- blocks

  module _ (runs : List Run) (are : AreRuns map part.leads runs) (blocks : List Block) (made : AreMade map part.leads runs (length part.leads) blocks) where
    abbrev no_block : Block
    no_block = record { start = 0; end = 0; kind = Fall }

    block_start : (i : ℕ) (b : Block) → i < length part.leads → (get_or blocks i b).start ≡ (get_or part.leads i no_lead).at
    block_start i b within = (made.each i no_lead nowhere b within).start

    block_to : (i : ℕ) (b : Block) → i < length part.leads → IsBlock map seeds (get_or blocks i b)
    block_to i b within =
        let of = made.each i no_lead nowhere b within in
        let run : IsRun map part.leads i (get_or runs i nowhere) = are.each i nowhere within in
        let place = place_at part.leads i no_lead within in
        let start : (get_or part.leads i no_lead).at ≡ (get_or blocks i b).start = sym of.start in
        let last : IsLastOf map (IsLead part.leads) (get_or blocks i b).start (get_or runs i nowhere).last =
        subst (λ z. IsLastOf map (IsLead part.leads) z (get_or runs i nowhere).last) (one_address part.leads i run.start (get_or part.leads i no_lead).at run.place place ∙ start) run.last in (
          (get_or runs i nowhere).last,
          record {
            leader = leads_there (get_or blocks i b).start (subst (IsLead part.leads) start (lead_at part.leads i (get_or part.leads i no_lead).at place));
            last = last_same map (IsLead part.leads) (IsLeader map seeds) leads_there leads_back (get_or blocks i b).start (get_or runs i nowhere).last last;
            of = subst (λ z. IsBlockOf map z (get_or runs i nowhere).last (get_or blocks i b)) start of;
          },
        )

    blocks_rise : (i j : ℕ) (b : Block) → i < j → j < length blocks → (get_or blocks i b).start < (get_or blocks j b).start
    blocks_rise i j b lt within =
        let inside : j < length part.leads = omega (arith, made.as_many, within) in
        let first : (get_or blocks i b).start ≡ (get_or part.leads i no_lead).at = block_start i b (omega arith) in
        let second : (get_or blocks j b).start ≡ (get_or part.leads j no_lead).at = block_start j b inside in
        let less : (get_or part.leads i no_lead).at < (get_or part.leads j no_lead).at = rise.rise i j no_lead lt inside in
        omega arith

    block_listed : (b : Block) → IsBlock map seeds b → Contains blocks b
    block_listed b is =
        let place = place_of_lead part.leads b.start (leads_back b.start is.1.leader) in
        let within : place.0 < length part.leads = place.1.within in
        let same : (get_or blocks place.0 b).start ≡ b.start = block_start place.0 b within ∙ place.1.address no_lead in
        (place.0, omega (arith, made.as_many, within), block_unique map seeds (get_or blocks place.0 b) b (block_to place.0 b within) is same)

    block_sound : (b : Block) → Contains blocks b → IsBlock map seeds b
    block_sound b c = subst (IsBlock map seeds) c.2 (block_to c.0 b (omega (arith, made.as_many, c.1)))

    pub outline_is : (edges : List Edge) → AreWays map part.leads part.returns edges → IsOutline map seeds blocks edges
    outline_is edges ways = record {
      all_blocks = record { in_order = blocks_rise; sound = block_sound; complete = block_listed };
      all_edges = record {
        in_order = ways.in_order;
        sound = λ edge c. way_edge edge ((ways.exact edge).0 c);
        complete = λ edge is. (ways.exact edge).1 (edge_way edge is);
      };
    }

-- what is known of the leaders of a valid part
pub leads_of_valid : (map : InstructionMap) (seeds : List ℕ) (part : Part) → IsValid map seeds part → AreLeads map part.leads
leads_of_valid map seeds part valid = record { rise = part_leads part part.leads refl valid.rising; known = valid.in_code.leads }

pub returns_of_valid : (map : InstructionMap) (seeds : List ℕ) (part : Part) → IsValid map seeds part → ReturnsRise part.returns
returns_of_valid map seeds part valid = part_returns part part.returns refl valid.rising

pub outlined : (map : InstructionMap) (seeds : List ℕ) (part : Part) (outline : Outline) → IsLawful map → IsValid map seeds part → AreOutlined map part outline → IsOutline map seeds outline.blocks outline.edges
outlined map seeds part outline lawful valid made = outline_is map seeds part lawful valid (leads_of_valid map seeds part valid) made.runs made.are outline.blocks made.made outline.edges made.edges

pub seeds_stand : (map : InstructionMap) (seeds : List ℕ) (part : Part) → IsLawful map → IsValid map seeds part → All (λ a. IsSome (map a)) seeds
seeds_stand map seeds part lawful valid = λ k d within. seed_stands map seeds part lawful valid (leads_of_valid map seeds part valid) (get_or seeds k d) (k, within, get_or_default seeds k (get_or seeds k d) d within)
