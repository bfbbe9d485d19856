-- The ends of the chains of leaders, and what they go to.
use Rattle.std.specs.Prelude.{◌≡◌, ℕ, ◌<◌, ◌⊎◌, List, [], ◌∷◌, ◌++◌, length, Contains}
use Rattle.cfg_model.specs.Graph.Listing.{Gains}
use Rattle.cfg_model.specs.Program.Instructions.{InstructionMap}
use Rattle.cfg_model.specs.Program.Chain.{IsTerminatorOf}
use Rattle.cert_make.specs.declared.chain_ends.Ends.{Ends}
use Rattle.cert_make.specs.declared.exits.Exit.{Exit}
use Rattle.cert_make.specs.Reason.{GoesTo}
use Rattle.cert_make.specs.Inner.Places.{at, IsAt}

-- The terminator k stands at this place of the new list, whose front is the old one, and nothing
-- else is new.
pub record IsGiven (k : ℕ) (old new : List ℕ) (place : ℕ) : Type 0 where
  pub kept : (i a : ℕ) → IsAt old i a → IsAt new i a
  pub only : (x : ℕ) → Contains new x → Contains old x ⊎ (x ≡ k)
  pub here : IsAt new place k

-- The end of the chain of a comes to the old ones.
pub record IsEnded (map : InstructionMap) (a : ℕ) (old new : Ends) : Type 0 where
  pub end : ℕ
  pub ends : IsTerminatorOf map a end
  pub place : ℕ
  pub given : IsGiven end old.terms.items new.terms.items place
  pub of : new.of.items ≡ old.of.items ++ place ∷ []

-- These are the ends of the chains of these leaders, by their places, and no others.
pub record AreEnds (map : InstructionMap) (leaders : List ℕ) (ends : Ends) : Type 0 where
  pub as_many : length ends.of.items ≡ length leaders
  pub right : (i a : ℕ) → IsAt leaders i a
      → (k : ℕ) × IsAt ends.terms.items (at ends.of.items i) k × IsTerminatorOf map a k
  pub only : (k : ℕ) → Contains ends.terms.items k
      → (a : ℕ) × Contains leaders a × IsTerminatorOf map a k

-- A way from the terminator k, at this place, to a leader that is one of some.
pub record IsExitOf (leaders : List ℕ) (Among : ℕ → Type 0) (end : ℕ) (x : Exit) : Type 0 where
  pub from : x.end ≡ end
  pub to : x.to < length leaders
  pub among : Among (at leaders x.to)

-- These are the ways from the ends to leaders.
pub record IsExit (map : InstructionMap) (leaders terms : List ℕ) (x : Exit) : Type 0 where
  pub end : x.end < length terms
  pub of : IsExitOf leaders (GoesTo map (at terms x.end)) x.end x

abbrev pub AreExits : InstructionMap → List ℕ → List ℕ → List Exit → Type 0
AreExits map leaders terms exits = Gains [] exits (IsExit map leaders terms)
