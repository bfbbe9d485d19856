-- The nearest leaders to ends of chains, and to the leaders that these go to.
use Rattle.std.specs.Prelude.{◌≡◌, ◌≢◌, ◌↔◌, ◌<◌, ◌⊎◌, ℕ, List, length, Contains, MatchOption}
use Rattle.std.specs.Prelude.{Option, Some, None, IfSome, slice_index_or}
use Rattle.cert_text.specs.declared.lines.LeadLine.{LeadLine}
use Rattle.cert_text.specs.declared.lines.ReturnLine.{ReturnLine}
use Rattle.cfg_model.specs.Program.Instructions.{InstructionMap}
use Rattle.cfg_model.specs.Program.Chain.{IsTerminatorOf}
use Rattle.cfg_model.specs.Program.Successors.{IsCall}
use Rattle.cfg_model.specs.Program.Status.{Returns}
use Rattle.cert_laws.specs.Lines.{IsReturn}
use Rattle.cert_make.specs.declared.exits.Exit.{Exit}
use Rattle.cert_make.specs.declared.firsts.Offer.{Offer}
use Rattle.cert_make.specs.Reason.{GoesTo}
use Rattle.cert_make.specs.Inner.Returns.{IsNotAfter}

-- The terminator of the chain of p goes to a.
abbrev pub LeadsTo : InstructionMap → ℕ → ℕ → Type 0
LeadsTo map p a = (k : ℕ) × IsTerminatorOf map p k × GoesTo map k a

-- If the instruction at k is a call with a fall, the returns tell whether its target returns.
abbrev pub TellCall : InstructionMap → List ReturnLine → ℕ → Type 0
TellCall map returns k =
    (target fall end : ℕ) → IsCall map k target (Some fall) → IsTerminatorOf map target end
    → IsReturn returns end ↔ Returns map target

-- The first of two offers does not come after the second.
abbrev pub IsUpTo : Offer → Offer → Type 0
IsUpTo one other = IsNotAfter one.rank one.lead other.rank other.lead

-- The first of the offers that are given, if there are any.
abbrev pub IsFirstOf : (Offer → Type 0) → Option Offer → Type 0
IsFirstOf Gives found =
    MatchOption found ((x : Offer) → ¬ Gives x)
    (λ first. Gives first × ((x : Offer) → Gives x → IsUpTo first x))

-- The first of the offers that are given at each of so many places.
pub record AreFirsts (count : ℕ) (Gives : ℕ → Offer → Type 0) (firsts : List (Option Offer))
    : Type 0 where
  pub long : length firsts ≡ count
  pub each : (i : ℕ) → i < count → IsFirstOf (Gives i) (slice_index_or firsts i None)

-- An offer is given at a place: the first of it and the one there stands there from now on.
pub record IsTaken (old : List (Option Offer)) (place : ℕ) (offer : Offer)
    (new : List (Option Offer)) : Type 0 where
  pub as_many : length new ≡ length old
  pub others : (j : ℕ) → j ≢ place → slice_index_or new j None ≡ slice_index_or old j None
  pub first : Offer
  pub here : slice_index_or new place None ≡ Some first
  pub which : (first ≡ offer) ⊎ (slice_index_or old place None ≡ Some first)
  pub up_to_new : IsUpTo first offer
  pub up_to_old : IfSome (slice_index_or old place None) (IsUpTo first)

-- One of the first so many leaders, whose chain ends at this place among ends, offers itself.
pub record IsOwnOffer (lines : List LeadLine) (of : List ℕ) (count end : ℕ) (o : Offer)
    : Type 0 where
  pub place : ℕ
  pub early : place < count
  pub there : slice_index_or of place 0 ≡ end
  pub rank : (d : LeadLine) → o.rank ≡ (slice_index_or lines place d).rank
  pub lead : (d : LeadLine) → o.lead ≡ (slice_index_or lines place d).at

-- The way at a place.
abbrev pub exit_at : List Exit → ℕ → Exit
exit_at exits i = slice_index_or exits i (record { end = 0; to = 0 })

-- One of the first so many ways, which goes to the leader at this place, hands on what is offered at
-- its end.
pub record IsHandedOn (exits : List Exit) (offers : List (Option Offer)) (count to : ℕ) (o : Offer)
    : Type 0 where
  pub place : ℕ
  pub early : place < count
  pub there : (exit_at exits place).to ≡ to
  pub offered : slice_index_or offers (exit_at exits place).end None ≡ Some o

-- The ways are between so many ends and so many leaders.
pub record AreWithin (ends leads : ℕ) (exits : List Exit) : Type 0 where
  pub each : (x : Exit) → Contains exits x → (x.end < ends) × (x.to < leads)
