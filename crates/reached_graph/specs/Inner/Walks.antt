-- How far the walks have come, and how they go on.
use Rattle.std.specs.Prelude.{◌≡◌, ◌≢◌, ℕ, ◌⊎◌, Bool, List, [], ◌∷◌, ◌++◌, length, Contains}
use Rattle.cfg_model.specs.Program.Instructions.{InstructionMap, IsLawful}
use Rattle.cfg_model.specs.Program.Chain.{GoesOnTo}
use Rattle.cfg_model.specs.Program.Reach.{Reached}
use Rattle.cfg_model.specs.Graph.Leader.{IsLeader}
use Rattle.numbered.specs.Numbering.{IsMarked, IsNumbering}
use Rattle.reached_graph.specs.declared.walks.Walks.{Walks}
use Rattle.reached_graph.specs.Inner.Leaders.{AreStarts}
use Rattle.reached_graph.specs.Inner.Marks.{IsAdded}

-- There are marks for each address of the program.
pub record AreFit (map : InstructionMap) (number : ℕ → ℕ) (w : Walks) : Type 0 where
  pub lawful : IsLawful map
  pub numbering : IsNumbering map number (length w.walked.items)
  pub starts : length w.starts.items ≡ length w.walked.items

-- Where blocks start the given marks are set, or two streams were found to join, and no mark was set.
pub record AreJoined (map : InstructionMap) (number : ℕ → ℕ) (marks : List Bool) (w : Walks)
    : Type 0 where
  pub new : (a : ℕ) → Contains w.joins.items a
      → IsMarked map number w.starts.items a × (¬ IsMarked map number marks a)
  pub kept : (a : ℕ) → IsMarked map number marks a → IsMarked map number w.starts.items a
  pub only : (a : ℕ) → IsMarked map number w.starts.items a
      → IsMarked map number marks a ⊎ Contains w.joins.items a

-- What holds of the addresses that were walked over and those where blocks start, but for what
-- comes after an open address, which a walk is at.
pub record AreWalked (map : InstructionMap) (seeds : List ℕ) (IsGiven : ℕ → Type 0)
    (IsWalked IsStart : ℕ → Type 0) (IsOpen : ℕ → Type 0) : Type 0 where
  -- What is walked over is reached, and where blocks start are leaders.
  pub reached : (a : ℕ) → IsWalked a → Reached map seeds a
  pub leads : (a : ℕ) → IsStart a → IsLeader map seeds a
  pub given : (a : ℕ) → IsGiven a → IsStart a
  pub begun : (a : ℕ) → IsStart a → IsWalked a ⊎ IsGiven a
  -- A walk came to each address from a start or from the one before it.
  pub came : (a : ℕ) → IsWalked a
      → IsStart a ⊎ ((b : ℕ) × IsWalked b × (¬ IsOpen b) × GoesOnTo map b a)
  -- It went on from there.
  pub onward : (a next : ℕ) → IsWalked a → GoesOnTo map a next
      → IsOpen a ⊎ (IsWalked next ⊎ IsStart next)
  -- Where two streams join a block starts.
  pub joined : (a b next : ℕ) → IsWalked a → IsWalked b → a ≢ b → GoesOnTo map a next
      → GoesOnTo map b next → IsOpen a ⊎ (IsOpen b ⊎ IsStart next)

-- The same of these walks, where the marks of the given starts are set.
abbrev pub HaveWalked : InstructionMap → (ℕ → ℕ) → List ℕ → List Bool → Walks → (ℕ → Type 0)
    → Type 0
HaveWalked map number seeds marks w IsOpen =
    AreWalked map seeds (IsMarked map number marks) (IsMarked map number w.walked.items)
    (IsMarked map number w.starts.items) IsOpen

-- No address is open.
abbrev pub Nowhere : ℕ → Type 0
Nowhere a = ⊥

-- This address alone is.
abbrev pub At : ℕ → ℕ → Type 0
At here a = a ≡ here

-- The address a is walked over, for the first time.
pub record IsBegun (map : InstructionMap) (number : ℕ → ℕ) (a : ℕ) (old new : Walks)
    : Type 0 where
  pub off : ¬ IsMarked map number old.walked.items a
  pub walked : IsAdded (IsMarked map number old.walked.items)
      (IsMarked map number new.walked.items) a
  pub starts : new.starts ≡ old.starts
  pub joins : new.joins ≡ old.joins

-- The same where no block starts.
pub record IsFresh (map : InstructionMap) (number : ℕ → ℕ) (a : ℕ) (old new : Walks)
    : Type 0 where
  pub no_start : ¬ IsMarked map number old.starts.items a
  pub begun : IsBegun map number a old new

-- A block starts at the address a from now on, which was walked over before.
pub record IsJoined (map : InstructionMap) (number : ℕ → ℕ) (a : ℕ) (old new : Walks)
    : Type 0 where
  pub no_start : ¬ IsMarked map number old.starts.items a
  pub was_walked : IsMarked map number old.walked.items a
  pub walked : new.walked ≡ old.walked
  pub starts : IsAdded (IsMarked map number old.starts.items)
      (IsMarked map number new.starts.items) a
  pub joins : new.joins.items ≡ old.joins.items ++ a ∷ []

-- A walk ends that comes to the address a: a block starts there, or does from now on.
abbrev pub IsStopped : InstructionMap → (ℕ → ℕ) → ℕ → Walks → Walks → Type 0
IsStopped map number a old new =
    (IsMarked map number old.starts.items a × (new ≡ old)) ⊎ IsJoined map number a old new

-- A walk goes on from the address s to its end.
pub record IsWalkOn (map : InstructionMap) (number : ℕ → ℕ) (s : ℕ) (old new : Walks)
    : Type 0 where
  pub fit : AreFit map number new
  pub kept : (a : ℕ) → IsMarked map number old.walked.items a
      → IsMarked map number new.walked.items a
  pub joined : (marks : List Bool) → AreJoined map number marks old
      → AreJoined map number marks new
  pub walked : (seeds : List ℕ) (marks : List Bool) → HaveWalked map number seeds marks old (At s)
      → HaveWalked map number seeds marks new Nowhere

-- A whole walk from the address s.
pub record IsWalkFrom (map : InstructionMap) (number : ℕ → ℕ) (s : ℕ) (old new : Walks)
    : Type 0 where
  pub fit : AreFit map number new
  pub begun : IsMarked map number new.walked.items s
  pub kept : (a : ℕ) → IsMarked map number old.walked.items a
      → IsMarked map number new.walked.items a
  pub joined : (marks : List Bool) → AreJoined map number marks old
      → AreJoined map number marks new
  pub walked : (seeds : List ℕ) (marks : List Bool) → IsMarked map number marks s
      → HaveWalked map number seeds marks old Nowhere
      → HaveWalked map number seeds marks new Nowhere

-- All walks from these addresses are done, where the marks of the given starts are set.
pub record AreDone (map : InstructionMap) (number : ℕ → ℕ) (marks : List Bool) (firsts : List ℕ)
    (w : Walks) : Type 0 where
  pub fit : AreFit map number w
  pub begun : (a : ℕ) → Contains firsts a → IsMarked map number w.walked.items a
  pub joined : AreJoined map number marks w
  pub walked : (seeds : List ℕ) → AreStarts map seeds (IsMarked map number marks)
      → HaveWalked map number seeds marks w Nowhere
