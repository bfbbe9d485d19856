-- All leaders of a program, and the last addresses of their blocks.
use Rattle.std.proofs.Common.{◌≡◌, ℕ, ◌<◌, ◌⊎◌, Bool, false, List, length, get_or, IsSome, sym, ◌∙◌, inl, inr, arith}
use Rattle.std.specs.Prelude.{◌↔◌}
use Rattle.std.proofs.lemmas.Bool.{cases_Bool, false≢true}
use Rattle.std.proofs.lemmas.List.Elements.{Contains-get_or}
use Rattle.cfg_model.specs.Program.Instructions.{InstructionMap, IsLawful}
use Rattle.cfg_model.specs.Program.Chain.{GoesOnTo}
use Rattle.cfg_model.specs.Program.Reach.{Reached}
use Rattle.cfg_model.specs.Graph.Block.{IsLastOf}
use Rattle.cfg_model.specs.Graph.Leader.{IsLeader}
use Rattle.cfg_model.proofs.Program.Known.{reached_along}
use Rattle.cfg_model.proofs.Graphs.Runs.{goes_up}
use Rattle.numbered.specs.Numbering.{IsMarked}
use Rattle.reached_terms.specs.Reached.{Reach, AreReachedTerms}
use Rattle.reached_graph.specs.declared.walks.Walks.{Walks}
use Rattle.reached_graph.specs.Inner.Blocks.{HoldMixed}
use Rattle.reached_graph.specs.Inner.Leaders.{AreLeaderLists, AreMarkedBlocks, AreStarts, MarkLeaders}
use Rattle.reached_graph.specs.Inner.Walks.{AreDone, Nowhere}
use Rattle.reached_graph.proofs.Cutting.{last_same}
use Rattle.reached_graph.proofs.Found.{starts_lead}
use Rattle.reached_graph.proofs.Starting.{none_walked}

-- those of a list of exactly the addresses where blocks are cut
module _ (map : InstructionMap) (seeds : List ℕ) (known : (a : ℕ) → Reached map seeds a → IsSome (map a)) (IsCut : ℕ → Type 0) (lead : (a : ℕ) → IsCut a ↔ IsLeader map seeds a)
    (starts lasts : List ℕ) (are : AreMarkedBlocks map IsCut starts lasts) where
  last_leads : (i d : ℕ) → i < length starts → IsLastOf map (IsLeader map seeds) (get_or starts i d) (get_or lasts i d)
  last_leads i d within = last_same map IsCut (IsLeader map seeds) (λ a is. (lead a).0 is) (λ a is. (lead a).1 is) (get_or starts i d) (get_or lasts i d) (are.cut.each i d within)

  pub leaders_are : AreLeaderLists map seeds starts lasts
  leaders_are = record {
    rise = are.rise;
    listed = λ a. (λ there. (lead a).0 ((are.exact a).0 there), λ is. (are.exact a).1 ((lead a).1 is));
    cut = record { as_many = are.cut.as_many; each = last_leads };
    stand = λ i d within.
        let inside : i < length starts = omega (arith, within, are.cut.as_many) in
        let from : IsLeader map seeds (get_or starts i d) = (lead (get_or starts i d)).0 ((are.exact (get_or starts i d)).0 (Contains-get_or starts i d inside)) in
        known (get_or lasts i d) (reached_along from.reached (last_leads i d inside).runs);
  }

-- where what a program reaches is kept, blocks are known to start at these marks
pub known_starts : (map : InstructionMap) (number : ℕ → ℕ) (seeds : List ℕ) (terms : Reach) → AreReachedTerms map number seeds terms → (marks : List Bool) → marks ≡ terms.starts → AreStarts map seeds (IsMarked map number marks)
known_starts map number seeds terms are marks same = rw same (record { sent = are.sent; leads = are.leads })

-- those that walks from blocks that overlap find
module _ (map : InstructionMap) (number : ℕ → ℕ) (lawful : IsLawful map) (marks : List Bool) (starts lasts : List ℕ) (cut : AreMarkedBlocks map (IsMarked map number marks) starts lasts)
    (mixed : List ℕ) (hold : HoldMixed starts lasts mixed) (seeds : List ℕ) (given : AreStarts map seeds (IsMarked map number marks)) where
  abbrev IsCut : ℕ → Type 0
  IsCut = IsMarked map number marks

  is_known : (a next : ℕ) → GoesOnTo map a next → IsCut next ⊎ ¬ IsCut next
  is_known a next goes = elim (cases_Bool (get_or marks (number next) false)) [
    | inl on ↦ inl ((goes_up map a next lawful goes).2, on)
    | inr off ↦ inr (λ cut. false≢true (sym off ∙ cut.1))
  ]

  pub walks_lead : (w : Walks) → AreDone map number marks mixed w → MarkLeaders map number seeds w.starts.items
  walks_lead w done =
      starts_lead map seeds IsCut (IsMarked map number w.walked.items) (IsMarked map number w.starts.items) (done.walked seeds given) lawful starts lasts cut mixed hold done.begun given is_known

  -- if none overlap, no two streams join
  pub none_join : length mixed ≡ 0 → MarkLeaders map number seeds marks
  none_join none =
      starts_lead map seeds IsCut Nowhere IsCut (none_walked map seeds IsCut Nowhere given (λ a nowhere. nowhere)) lawful starts lasts cut mixed hold (λ a there. absurd (omega (arith, there.1, none))) given is_known
