-- Walks over the blocks that overlap find all leaders.
use Rattle.std.proofs.Common.{◌≢◌, ℕ, ◌⊎◌, List, get_or, sym, subst, inl, inr}
use Rattle.std.specs.Prelude.{◌↔◌, Contains}
use Rattle.std.proofs.lemmas.Bool.{cases_order}
use Rattle.cfg_model.specs.Program.Instructions.{InstructionMap, IsLawful}
use Rattle.cfg_model.specs.Program.Chain.{GoesOnTo, OnChain}
use Rattle.cfg_model.specs.Program.Reach.{Reached}
use Rattle.cfg_model.specs.Graph.Block.{RunsTo}
use Rattle.cfg_model.specs.Graph.Leader.{IsLeader}
use Rattle.reached_graph.specs.Inner.Blocks.{HoldMixed, IsMixed}
use Rattle.reached_graph.specs.Inner.Leaders.{AreMarkedBlocks, AreStarts}
use Rattle.reached_graph.specs.Inner.Walks.{AreWalked, Nowhere}
use Rattle.reached_graph.proofs.Apart.{apart_on, chain_of, lies_at, lies_on, mixed_blocks, LiesOn}
use Rattle.reached_graph.proofs.Reaching.{reached_holds, starts_found}

module _ (map : InstructionMap) (seeds : List ℕ) (IsCut IsWalked IsStart : ℕ → Type 0) (done : AreWalked map seeds IsCut IsWalked IsStart Nowhere) where
  next_walked : (a next : ℕ) → IsWalked a → GoesOnTo map a next → ¬ IsCut next → IsWalked next
  next_walked a next walked goes none = elim (done.onward a next walked goes) [
    | inl nowhere ↦ absurd nowhere
    | inr more ↦ elim more [
      | inl on ↦ on
      | inr starts ↦ elim (done.begun next starts) [ inl on ↦ on | inr cut ↦ absurd (none cut) ]
    ]
  ]

  -- a walk that begins at a block goes over all of it
  along : {s k : ℕ} → RunsTo map IsCut s k → IsWalked s → IsWalked k
  along RunsTo.here walked = walked
  along (RunsTo.on {s = s} {next = next} goes none rest) walked = along rest (next_walked s next walked goes none)

  module _ (lawful : IsLawful map) (starts lasts : List ℕ) (are : AreMarkedBlocks map IsCut starts lasts) (mixed : List ℕ) (hold : HoldMixed starts lasts mixed)
      (begun : (a : ℕ) → Contains mixed a → IsWalked a) where
    abbrev Lies : ℕ → Type 0
    Lies = LiesOn map lawful IsCut starts are.rise are.exact

    lies_walked : (a : ℕ) (lies : Lies a) → IsMixed starts lasts lies.place → IsWalked a
    lies_walked a lies is = along lies.runs (begun (get_or starts lies.place 0) (hold.all lies.place lies.within is))

    joins : (a b next : ℕ) → IsWalked a → IsWalked b → a ≢ b → GoesOnTo map a next → GoesOnTo map b next → IsStart next
    joins a b next walked too apart goes goes_too = elim (done.joined a b next walked too apart goes goes_too) [
      | inl none ↦ absurd none
      | inr more ↦ elim more [ inl none ↦ absurd none | inr starts ↦ starts ]
    ]

    module _ (a b next : ℕ) (apart : a ≢ b) (goes : GoesOnTo map a next) (goes_too : GoesOnTo map b next) (none : ¬ IsCut next) where
      join_on : Lies a → Lies b → IsStart next
      join_on lies other = elim (cases_order lies.place other.place) [
        | inl same ↦ absurd (apart_on map lawful IsCut starts are.rise are.exact (get_or starts lies.place 0) a b next (chain_of lies.runs)
            (subst (λ i. OnChain map (get_or starts i 0) b) (sym same) (chain_of other.runs)) apart goes goes_too)
        | inr rest ↦ elim rest [
          | inl less ↦
              let both = mixed_blocks map lawful IsCut starts are.rise are.exact lasts are.cut a b next goes goes_too none lies other less in
              joins a b next (lies_walked a lies both.0) (lies_walked b other both.1) apart goes goes_too
          | inr more ↦
              let both = mixed_blocks map lawful IsCut starts are.rise are.exact lasts are.cut b a next goes_too goes none other lies more in
              joins a b next (lies_walked a lies both.1) (lies_walked b other both.0) apart goes goes_too
        ]
      ]

    module _ (given : AreStarts map seeds IsCut) (is_known : (a next : ℕ) → GoesOnTo map a next → IsCut next ⊎ ¬ IsCut next) where
      all_lie : {a : ℕ} → Reached map seeds a → Lies a
      all_lie reached = reached_holds map seeds Lies
          (λ a is. lies_at map lawful IsCut starts are.rise are.exact a (given.sent a is))
          (λ a next lies goes. lies_on map lawful IsCut starts are.rise are.exact a next (is_known a next goes) lies goes)
          reached

      join_starts : (a b next : ℕ) → Reached map seeds a → Reached map seeds b → a ≢ b → GoesOnTo map a next → GoesOnTo map b next → IsStart next
      join_starts a b next r s apart goes goes_too = elim (is_known a next goes) [
        | inl cut ↦ done.given next cut
        | inr none ↦ join_on a b next apart goes goes_too none (all_lie r) (all_lie s)
      ]

      pub starts_lead : (a : ℕ) → IsStart a ↔ IsLeader map seeds a
      starts_lead a = (
        λ starts. done.leads a starts,
        λ lead. starts_found map seeds IsStart (λ b is. done.given b (given.sent b is)) join_starts lead.starts,
      )
