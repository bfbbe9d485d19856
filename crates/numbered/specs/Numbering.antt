-- Numbers for the addresses of a program.
use Rattle.std.specs.Prelude.{◌≡◌, ◌≢◌, ℕ, ◌<◌, ◌≤◌, Bool, true, false, List, get_or, Option, IsSome}
use Rattle.std.specs.Option.{MatchOption}
use Rattle.cfg_model.specs.Program.Instructions.{InstructionMap}

-- Different instructions have different numbers, all below count.
pub record IsNumbering (map : InstructionMap) (number : ℕ → ℕ) (count : ℕ) : Type 0 where
  pub below : (a : ℕ) → IsSome (map a) → number a < count
  pub apart : (a b : ℕ) → IsSome (map a) → IsSome (map b) → number a ≡ number b → a ≡ b

-- The numbers are in the order of the addresses.
pub record NumbersRise (map : InstructionMap) (number : ℕ → ℕ) : Type 0 where
  pub rise : (a b : ℕ) → IsSome (map a) → IsSome (map b) → a < b → number a < number b

-- An instruction stands at the address, and its mark is set.
abbrev pub IsMarked : InstructionMap → (ℕ → ℕ) → List Bool → ℕ → Type 0
IsMarked map number marks a = IsSome (map a) × (get_or marks (number a) false ≡ true)

-- The address with the number n whose mark is set; none if there is no such address.
abbrev pub IsMarkedAt : InstructionMap → (ℕ → ℕ) → List Bool → ℕ → Option ℕ → Type 0
IsMarkedAt map number marks n found =
    MatchOption found ((a : ℕ) → IsMarked map number marks a → number a ≢ n)
    (λ a. IsMarked map number marks a × (number a ≡ n))

-- The same of an address whose number is from or more, but below until.
abbrev pub IsMarkedBetween : InstructionMap → (ℕ → ℕ) → List Bool → ℕ → ℕ → ℕ → Type 0
IsMarkedBetween map number marks from until a =
    IsMarked map number marks a × (from ≤ number a) × (number a < until)

-- The first marked address whose number is from or more; none if there is no such address.
abbrev pub IsFirstMarked : InstructionMap → (ℕ → ℕ) → List Bool → ℕ → Option ℕ → Type 0
IsFirstMarked map number marks from found =
    MatchOption found ((a : ℕ) → IsMarked map number marks a → number a < from)
    (λ a. IsMarked map number marks a × (from ≤ number a)
    × ((b : ℕ) → IsMarked map number marks b → from ≤ number b → number a ≤ number b))
