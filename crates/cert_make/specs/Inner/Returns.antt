-- What a step of the maker finds: ranks and reasons by the lines of a table.
use Rattle.std.specs.Prelude.{◌≡◌, ◌↔◌, ℕ, ◌<◌, ◌≤◌, ◌+◌, ◌⊎◌, List, All, Contains, length, map}
use Rattle.std.specs.Prelude.{Some, slice_index_or}
use Rattle.cert_text.specs.declared.lines.ReturnLine.{ReturnLine}
use Rattle.cert_text.specs.declared.lines.ReturnWhy.{ReturnWhy}
use Rattle.cert_text.specs.declared.lines.ReturnWhy.TheVariants.{CallBoth}
use Rattle.cfg_model.specs.declared.flow.Flow.{Flow}
use Rattle.cfg_model.specs.Program.Instructions.{InstructionMap, flow_at}
use Rattle.cert_laws.specs.Lines.{IsReturn, IsReturnBelow}
use Rattle.cert_make.specs.Canonical.{ReturnsReached}
use Rattle.cert_make.specs.Reason.{EndCounts, ReturnsFor}
use Rattle.cert_make.specs.First.{ReturnWhyBefore, IsFirst}

-- The chain of a ends in a terminator that these lines list with a rank below this one.
abbrev pub EndIsBelow : InstructionMap → List ReturnLine → ℕ → ℕ → Type 0
EndIsBelow map lines rank a = EndCounts map (IsReturnBelow lines rank) a

-- They list it with this rank.
abbrev pub EndHasRank : InstructionMap → List ReturnLine → ℕ → ℕ → Type 0
EndHasRank map lines rank a = (other : ℕ) → EndIsBelow map lines other a ↔ (rank < other)

-- They do not list it.
abbrev pub EndHasNone : InstructionMap → List ReturnLine → ℕ → Type 0
EndHasNone map lines a = (other : ℕ) → ¬ EndIsBelow map lines other a

-- The terminator k is a call that returns through both its ways by these lines, of which the greater
-- rank is this one.
abbrev pub CallHasRank : InstructionMap → List ReturnLine → ℕ → ℕ → Type 0
CallHasRank map lines rank k =
    (other : ℕ) → ReturnsFor map (IsReturnBelow lines other) k CallBoth ↔ (rank < other)

-- It is no call, or does not return so.
abbrev pub CallHasNone : InstructionMap → List ReturnLine → ℕ → Type 0
CallHasNone map lines k = (other : ℕ) → ¬ ReturnsFor map (IsReturnBelow lines other) k CallBoth

-- If the chain of x ends in a listed terminator, that one's rank is this one at least, and where it
-- is this one, x does not lie below this address.
abbrev pub ComesAfter : InstructionMap → List ReturnLine → ℕ → ℕ → ℕ → Type 0
ComesAfter map lines rank to x =
    (other : ℕ) → EndIsBelow map lines other x → (rank < other) × (other ≡ rank + 1 → to ≤ x)

-- The first of two pairs of a rank and an address comes before the second, or is the same.
abbrev pub IsNotAfter : ℕ → ℕ → ℕ → ℕ → Type 0
IsNotAfter rank to other_rank other_to = (rank < other_rank) ⊎ ((rank ≡ other_rank) × (to ≤ other_to))

-- Among these addresses, `to` is the first whose chain ends in a line of the least rank.
pub record IsNearest (map : InstructionMap) (lines : List ReturnLine) (among : List ℕ)
    (rank to : ℕ) : Type 0 where
  pub listed : Contains among to
  pub has : EndHasRank map lines rank to
  pub first : All (ComesAfter map lines rank to) among

-- The line has the least rank for which there is a reason by these lines, and the first such reason.
pub record IsSettledReturn (map : InstructionMap) (lines : List ReturnLine)
    (l : ReturnLine) : Type 0 where
  pub why : IsFirst ReturnWhyBefore (ReturnsFor map (IsReturnBelow lines l.rank) l.at) l.why
  pub least :
      (rank : ℕ) (why : ReturnWhy) → rank < l.rank
      → ¬ ReturnsFor map (IsReturnBelow lines rank) l.at why

-- It is the line of this terminator.
abbrev pub IsSettledFor : InstructionMap → List ReturnLine → ℕ → ReturnLine → Type 0
IsSettledFor map lines k l = (l.at ≡ k) × IsSettledReturn map lines l

-- There is no reason for the terminator k by these lines, whatever their ranks.
abbrev pub HasNoReason : InstructionMap → List ReturnLine → ℕ → Type 0
HasNoReason map lines k =
    (rank : ℕ) (why : ReturnWhy) → ¬ ReturnsFor map (IsReturnBelow lines rank) k why

-- What a step makes of a line: one that is settled by these lines, or if there is no reason by them
-- the same one.
abbrev pub IsNextReturn : InstructionMap → List ReturnLine → ReturnLine → ReturnLine → Type 0
IsNextReturn map lines old new =
    IsSettledFor map lines old.at new ⊎ (HasNoReason map lines old.at × (new ≡ old))

-- The lines are those of all reached terminators that return.
abbrev pub ListAllReturns : InstructionMap → List ℕ → List ReturnLine → Type 0
ListAllReturns map seeds lines = (k : ℕ) → IsReturn lines k ↔ ReturnsReached map seeds k

-- The next lines are at the same addresses as some, and settled by these lines.
pub record AreSettledBy (code : InstructionMap) (lines some next : List ReturnLine) : Type 0 where
  pub same : map (λ (l : ReturnLine). l.at) next ≡ map (λ (l : ReturnLine). l.at) some
  pub settled : All (IsSettledReturn code lines) next

-- The lines of two tables have the same ranks, one by one.
abbrev pub HaveSameRanks : List ReturnLine → List ReturnLine → Type 0
HaveSameRanks one other =
    (i : ℕ) (d : ReturnLine) → i < length one
    → (slice_index_or one i d).rank ≡ (slice_index_or other i d).rank

-- These are the flows of the terminators of the lines, one by one.
pub record AreFlows (code : InstructionMap) (lines : List ReturnLine) (flows : List Flow)
    : Type 0 where
  pub as_many : length flows ≡ length lines
  pub each : (i : ℕ) (l : ReturnLine) (f : Flow) → i < length lines
      → flow_at code (slice_index_or lines i l).at ≡ Some (slice_index_or flows i f)
