-- What a run has written.
use Rattle.std.specs.Prelude.{◌≡◌, ℕ, ◌⊎◌, List, ◌++◌, Option}
use Rattle.cfg_io.specs.Told.{Appends, AppendsPrefix}

-- What was written grew by the text.
abbrev pub Grows : Option (List ℕ) → Option (List ℕ) → List ℕ → Type 0
Grows old new text = Appends old text new

-- It did; or a write failed in this call, and it grew by a part of the text from its front.
abbrev pub Tells : Option (List ℕ) → Option (List ℕ) → Type 0 → List ℕ → Type 0
Tells old new failed text = Appends old text new ⊎ (failed × AppendsPrefix old text new)

-- A part of the text was written, from its front, and the rest of it is left.
abbrev pub Moves : Option (List ℕ) → Option (List ℕ) → List ℕ → List ℕ → Type 0
Moves old new text left = (done : List ℕ) × Appends old done new × (done ++ left ≡ text)
