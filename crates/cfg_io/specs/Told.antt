-- Bytes that an input or a sink tells, `Some` of them, or does not tell, `None`. No call changes
-- which.
use Rattle.std.specs.Prelude.{◌≡◌, ℕ, ◌≤◌, ◌<◌, List, ◌++◌, length, take, Option}
use Rattle.std.specs.Option.{option_map}

-- the bytes still to be read began with `taken`, and have lost it
abbrev pub Takes : Option (List ℕ) → List ℕ → Option (List ℕ) → Type 0
Takes old taken new = old ≡ option_map (λ left. taken ++ left) new

-- n bytes were taken off the front of the bytes still to be read
abbrev pub TakesCount : Option (List ℕ) → ℕ → Option (List ℕ) → Type 0
TakesCount old n new = (taken : List ℕ) × Takes old taken new × (length taken ≡ n)

-- at most n bytes were taken off the front of the bytes still to be read
abbrev pub TakesAtMost : Option (List ℕ) → ℕ → Option (List ℕ) → Type 0
TakesAtMost old n new = (taken : List ℕ) × Takes old taken new × (length taken ≤ n)

-- the bytes written grew by `piece`
abbrev pub Appends : Option (List ℕ) → List ℕ → Option (List ℕ) → Type 0
Appends old piece new = new ≡ option_map (λ had. had ++ piece) old

-- the bytes written grew by a part of `bytes` from its front that is not all of it
abbrev pub AppendsPrefix : Option (List ℕ) → List ℕ → Option (List ℕ) → Type 0
AppendsPrefix old bytes new = (n : ℕ) × (n < length bytes) × Appends old (take n bytes) new
