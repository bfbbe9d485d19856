-- The canonical part of a certificate: of the lines that could stand there, one for each leader and
-- each reached terminator that returns.
use Rattle.std.specs.Prelude.{◌≡◌, ℕ, List, map, Contains}
use Rattle.std.specs.List.Sorted.{IsStrictlyIncreasing}
use Rattle.cert_text.specs.declared.lines.ReturnLine.{ReturnLine}
use Rattle.cert_text.specs.declared.lines.LeadLine.{LeadLine}
use Rattle.cert_text.specs.declared.certificate.Part.{Part}
use Rattle.cfg_model.specs.Program.Instructions.{InstructionMap}
use Rattle.cfg_model.specs.Program.Chain.{IsTerminator}
use Rattle.cfg_model.specs.Program.Reach.{Reached}
use Rattle.cfg_model.specs.Program.Status.{Returns}
use Rattle.cfg_model.specs.Graph.Leader.{IsLeader}
use Rattle.cert_make.specs.Reason.{ReturnsFor, LeadsFor}
use Rattle.cert_make.specs.Rank.{ReturnsBelow, LeadsBelow, IsRank}
use Rattle.cert_make.specs.First.{ReturnWhyBefore, LeadWhyBefore, IsFirst}

-- The line of a terminator that returns: its least rank, and the first reason at that rank.
pub record IsReturnLine (map : InstructionMap) (l : ReturnLine) : Type 0 where
  pub rank : IsRank (ReturnsBelow map) l.at l.rank
  pub why : IsFirst ReturnWhyBefore (ReturnsFor map (ReturnsBelow map l.rank) l.at) l.why

-- The same of a leader.
pub record IsLeadLine (map : InstructionMap) (seeds : List ℕ) (l : LeadLine) : Type 0 where
  pub rank : IsRank (LeadsBelow map seeds) l.at l.rank
  pub why : IsFirst LeadWhyBefore (LeadsFor map seeds (LeadsBelow map seeds l.rank) l.at) l.why

-- The list has one line for each of these addresses, by rising address, and each line is right.
pub record ListsLines {X : Type 0} (at : X → ℕ) (Among : ℕ → Type 0) (IsLine : X → Type 0)
    (lines : List X) : Type 0 where
  pub rises : IsStrictlyIncreasing (map at lines)
  pub among : (l : X) → Contains lines l → Among (at l)
  pub right : (l : X) → Contains lines l → IsLine l
  pub complete : (a : ℕ) → Among a → (l : X) × Contains lines l × (at l ≡ a)

-- A reached terminator that returns.
pub record ReturnsReached (map : InstructionMap) (seeds : List ℕ) (k : ℕ) : Type 0 where
  pub reached : Reached map seeds k
  pub ends : IsTerminator map k
  pub returns : Returns map k

pub record IsCanonical (map : InstructionMap) (seeds : List ℕ) (part : Part) : Type 0 where
  pub returns : ListsLines (λ l. l.at) (ReturnsReached map seeds) (IsReturnLine map) part.returns
  pub leads : ListsLines (λ l. l.at) (IsLeader map seeds) (IsLeadLine map seeds) part.leads

-- A program has one canonical part.
abbrev pub CanonicalIsUnique : Type 0
CanonicalIsUnique =
    (map : InstructionMap) (seeds : List ℕ) (part other : Part) → IsCanonical map seeds part
    → IsCanonical map seeds other → part ≡ other
