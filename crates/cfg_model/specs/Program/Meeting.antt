-- Where two chains meet, and where a chain stops at a block's end.
use Rattle.std.specs.Prelude.{ℕ, ◌≤◌, ◌⊎◌}
use Rattle.cfg_model.specs.Program.Instructions.{InstructionMap}
use Rattle.cfg_model.specs.Program.Chain.{OnChain, GoesOnTo, IsTerminator}

-- The chains of p and q meet at m: it is on both, and no lower address is. Chains only go up, so m
-- is the first address of either chain that is on the other (block end resolution of Meng et al.,
-- PPoPP 2021). That whole chains are compared is this project's profile.
pub record IsMeeting (map : InstructionMap) (p q m : ℕ) : Type 0 where
  pub on_first : OnChain map p m
  pub on_second : OnChain map q m
  pub least : (x : ℕ) → OnChain map p x → OnChain map q x → m ≤ x

-- k is straight, and the address after it is one of these.
abbrev pub GoesOnInto : InstructionMap → (ℕ → Type 0) → ℕ → Type 0
GoesOnInto map Among k = (next : ℕ) × GoesOnTo map k next × Among next

-- A block may end at k if these are the starts: k is a terminator, or a start stands right after
-- it.
abbrev pub IsStop : InstructionMap → (ℕ → Type 0) → ℕ → Type 0
IsStop map Among k = IsTerminator map k ⊎ GoesOnInto map Among k

-- k is the first address of the chain of s at which a block may end.
pub record IsFirstStop (map : InstructionMap) (Among : ℕ → Type 0) (s k : ℕ) : Type 0 where
  pub reaches : OnChain map s k
  pub stops : IsStop map Among k
  pub first : (j : ℕ) → OnChain map s j → IsStop map Among j → k ≤ j
