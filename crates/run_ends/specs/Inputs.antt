-- What a run does to its input. A path is that of the file that is asked for; there is none if no
-- file is.
use Rattle.std.specs.Prelude.{◌≡◌, ℕ, ◌+◌, ◌≤◌, ◌<◌, ◌⊎◌, List, [], length, Bool}
use Rattle.std.specs.Prelude.{Option, Some, None, IfSome}
use Rattle.cfg_io.specs.Opened.{Opened, Nothing, Something, told_path}
use Rattle.cfg_io.specs.Told.{TakesCount, TakesAtMost}
use Rattle.run_ends.specs.declared.reading.TheConstants.{FILE_LIMIT}

-- These bytes count for what is asked for: those of the input, if a file is asked for. For all else
-- the input is not read, so they may be any.
abbrev pub AreBytesFor : Option (List ℕ) → Option (List ℕ) → List ℕ → Type 0
AreBytesFor None told bytes = Unit {0}
AreBytesFor (Some path) told bytes = told ≡ Some bytes

-- This holds over the bytes that count, if the input tells its bytes or is not read.
abbrev pub OverInput : Option (List ℕ) → Option (List ℕ) → (List ℕ → Type 0) → Type 0
OverInput path told Holds = (bytes : List ℕ) → AreBytesFor path told bytes → Holds bytes

-- Nothing was opened, or the file that is asked for by its path.
abbrev pub OpenedFor : Option (List ℕ) → Bool → Opened → Type 0
OpenedFor None tells now = now ≡ Nothing
OpenedFor (Some path) tells now = (now ≡ Nothing) ⊎ (now ≡ Something (told_path tells path))

-- The file that is asked for is the one that is open.
abbrev pub IsOpenFor : Option (List ℕ) → Bool → Opened → Type 0
IsOpenFor None tells now = Unit {0}
IsOpenFor (Some path) tells now = now ≡ Something (told_path tells path)

-- What was done to the input for what is asked for. `IsRead` says that a file was read, and
-- `IsMalformed` that it was refused, as one of more bytes than the limit is. `old` and `new` are the
-- bytes that are left before and after, and `before` and `after` the counts of calls that failed.
pub record FileReadFor (path : Option (List ℕ)) (IsRead IsMalformed : Type 0)
    (tells : Bool) (now : Opened) (old new : Option (List ℕ)) (before after : ℕ) : Type 0 where
  pub opened : OpenedFor path tells now
  pub is_open : IsRead → IsOpenFor path tells now
  pub untouched : path ≡ None → (new ≡ old) × (after ≡ before)
  pub read_to_end : IfSome old (λ bytes. length bytes ≤ FILE_LIMIT → IsRead → new ≡ Some [])
  pub too_large : IfSome old (λ bytes. FILE_LIMIT < length bytes → IsRead
      → TakesCount old (FILE_LIMIT + 1) new)
  pub within_limit : ¬ IsMalformed → TakesAtMost old FILE_LIMIT new
