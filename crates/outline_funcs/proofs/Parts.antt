-- What is made from an outline, part by part, for the functions of a program.
use Rattle.std.proofs.Common.{◌≡◌, ℕ, suc, ◌<◌, List, [], ◌∷◌, Bool, get_or, sym, ap, subst, inl, inr, ⊎_elim, arith}
use Rattle.std.specs.Prelude.{IsSome}
use Rattle.std.specs.List.{All, AllZip}
use Rattle.std.specs.List.Sorted.{IsNonDecreasingBy}
use Rattle.std.proofs.lemmas.Bool.{cases_eq}
use Rattle.std.proofs.lemmas.List.Elements.{Contains-get_or}
use Rattle.cfg_model.specs.declared.graph.Block.{Block}
use Rattle.cfg_model.specs.declared.graph.Edge.{Edge}
use Rattle.cfg_model.specs.declared.graph.Function.{Function}
use Rattle.cfg_model.specs.Program.Instructions.{InstructionMap, IsLawful}
use Rattle.cfg_model.specs.Graph.Function.{IsEntry}
use Rattle.cfg_model.specs.Graph.Graph.{IsOutline}
use Rattle.outline_funcs.specs.Listed.{TellsReturn, TellsReturns}
use Rattle.outline_funcs.specs.declared.exits.Exits.{Exits}
use Rattle.outline_funcs.specs.Inner.Blocks.{HasBlockAt}
use Rattle.outline_funcs.specs.Inner.Bodies.{IsFunctionBy}
use Rattle.outline_funcs.specs.Inner.Entries.{AreEntered, AreEntriesBy}
use Rattle.outline_funcs.specs.Inner.Exits.{AreExits, AreFirsts, JoinsBlocks}
use Rattle.outline_funcs.specs.Inner.Plans.{MakesAll, Serves}
use Rattle.outline_funcs.proofs.BlocksListed.{edge_joins, entry_leads, leader_listed}
use Rattle.outline_funcs.proofs.Whole.{entry_exact, functions_exact, each_entry, functions_ordered}

pub same_outline : (map : InstructionMap) (seeds : List ℕ) (blocks shown : List Block) (edges others : List Edge) → blocks ≡ shown → edges ≡ others → IsOutline map seeds shown others → IsOutline map seeds blocks edges
same_outline map seeds blocks shown edges others b e outline =
    subst (λ l. IsOutline map seeds l edges) (sym b) (subst (λ l. IsOutline map seeds shown l) (sym e) outline)

-- edges in order are in the order of what they come from
pub edges_rise : (map : InstructionMap) (seeds : List ℕ) (blocks : List Block) (edges : List Edge) → IsOutline map seeds blocks edges → IsNonDecreasingBy (λ edge. edge.from) edges
edges_rise map seeds blocks edges outline = λ i j d le within.
    elim (cases_eq i j) [
      | inl e ↦ let same : (get_or edges i d).from ≡ (get_or edges j d).from = ap (λ n. (get_or edges n d).from) e in omega arith
      | inr ne ↦
          ⊎_elim
          (λ (less : (get_or edges i d).from < (get_or edges j d).from). omega arith)
          (λ same. let from : (get_or edges i d).from ≡ (get_or edges j d).from = same.0 in omega arith)
          (outline.all_edges.in_order i j d (omega arith) within)
    ]

module _ (map : InstructionMap) (seeds : List ℕ) (lawful : IsLawful map) (known : All (λ a. IsSome (map a)) seeds)
    (blocks : List Block) (edges : List Edge) (outline : IsOutline map seeds blocks edges) where
  pub edges_join : All (JoinsBlocks blocks) edges
  edges_join = λ k d lt. edge_joins map seeds lawful known blocks edges outline (get_or edges k d) (Contains-get_or edges k d lt)

  module _ (entries : List ℕ) (are : AreEntriesBy edges seeds entries) where
    pub are_entries : All (IsEntry map seeds) entries
    are_entries = λ k d lt. (entry_exact map seeds blocks edges outline entries are (get_or entries k d)).0 (Contains-get_or entries k d lt)

    pub entries_listed : All (HasBlockAt blocks) entries
    entries_listed = λ k d lt. leader_listed map seeds lawful known blocks edges outline (get_or entries k d) (entry_leads map seeds (are_entries k d lt))

-- the edges by the block that they leave, where these are what was made of them
module _ (map : InstructionMap) (seeds : List ℕ) (lawful : IsLawful map) (known : All (λ a. IsSome (map a)) seeds) (exits : Exits)
    (outline : IsOutline map seeds exits.blocks.now exits.edges.now) (entries : List ℕ) (are : AreEntriesBy exits.edges.now seeds entries)
    (firsts : AreFirsts exits.blocks.now exits.edges.now exits.firsts.items) (marked : AreEntered exits.blocks.now entries exits.entered.items) where
  exits_are : AreExits exits
  exits_are = record {
    in_order = outline.all_blocks.in_order;
    joined = edges_join map seeds lawful known exits.blocks.now exits.edges.now outline;
    firsts = firsts;
    marks = marked.as_many;
  }

  -- they serve for each entry
  pub plan_serves : Serves (IsEntry map seeds) exits entries
  plan_serves = record {
    holds = are_entries map seeds lawful known exits.blocks.now exits.edges.now outline entries are;
    edges = exits_are;
    listed = entries_listed map seeds lawful known exits.blocks.now exits.edges.now outline entries are;
  }

  -- and with all of them all functions are made
  pub plan_makes : MakesAll map seeds exits entries
  plan_makes functions each = record {
    exact = functions_exact map seeds exits outline entries are exits_are marked functions each;
    complete = each_entry map seeds exits outline entries are exits_are marked functions each;
    ordered = functions_ordered map seeds exits outline entries are exits_are marked functions each;
  }

-- functions whose status was told by who answers of each entry have the status of the program

pub entries_asked : (map : InstructionMap) (seeds : List ℕ) (Asks : ℕ → Type 0) (Answers : ℕ → Bool → Type 0) → TellsReturns map seeds Asks Answers
    → (exits : Exits) (entries : List ℕ) → Serves (IsEntry map seeds) exits entries → Serves Asks exits entries
entries_asked map seeds Asks Answers tells exits entries serves =
    record { holds = λ k d lt. tells.asks (get_or entries k d) (serves.holds k d lt); edges = serves.edges; listed = serves.listed }

pub told_functions : (map : InstructionMap) (seeds : List ℕ) (Asks : ℕ → Type 0) (Answers : ℕ → Bool → Type 0) → TellsReturns map seeds Asks Answers
    → (exits : Exits) (entries : List ℕ) (functions : List Function) → All (IsEntry map seeds) entries
    → AllZip (IsFunctionBy Answers exits) entries functions → AllZip (IsFunctionBy (TellsReturn map) exits) entries functions
told_functions map seeds Asks Answers tells exits [] [] are each = tt
told_functions map seeds Asks Answers tells exits [] (f ∷ functions) are each = absurd each
told_functions map seeds Asks Answers tells exits (a ∷ entries) [] are each = absurd each
told_functions map seeds Asks Answers tells exits (a ∷ entries) (f ∷ functions) are (first, others) = (
  record { starts = first.starts; status = tells.tells a f.returns (are 0 a (omega arith)) first.status; body = first.body },
  told_functions map seeds Asks Answers tells exits entries functions (λ k d lt. are (suc k) d (omega (arith, lt))) others,
)
