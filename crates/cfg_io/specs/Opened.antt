-- What an input has opened.
use Rattle.std.specs.Prelude.{◌≢◌, ℕ, List, Bool, Option, Some, None, if◌then◌else◌}

-- nothing, or something and, if the input tells it, the path that was given to the successful open
pub data Opened : Type 0 where
  Nothing : Opened
  Something : Option (List ℕ) → Opened

-- something is opened
abbrev pub IsOpened : Opened → Type 0
IsOpened o = o ≢ Nothing

-- the path, if the input tells paths
abbrev pub told_path : Bool → List ℕ → Option (List ℕ)
told_path tells path = if tells then Some path else None
