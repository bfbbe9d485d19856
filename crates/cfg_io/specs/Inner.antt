-- Words that no public clause cites: what one read into the rest of a buffer did.
use Rattle.std.specs.Prelude.{◌≡◌, ℕ, ◌+◌, ◌≤◌, List, [], length, take, drop, Option}
use Rattle.std.specs.Prelude.{Result, IfSome, IfOk, OnErr}
use Rattle.cfg_io.specs.Told.{Takes}

-- Bytes were read once into a buffer from its place `at` on, and the result is how many came. `old`
-- and `new` are the buffer before and after, `rest` and `left` the bytes still to be read.
pub record ReadAt (at : ℕ) (old new : List ℕ) (rest left : Option (List ℕ))
    {E : Type 0} (result : Result ℕ E) : Type 0 where
  -- What stands before that place stays.
  pub keeps : take at new ≡ take at old
  -- The bytes that came stand there, inside the buffer. They were taken, and nothing else.
  pub in_bounds : IfOk result (λ n. at + n ≤ length new)
  pub takes : IfOk result (λ n. Takes rest (take n (drop at new)) left)
  -- None came at the end alone.
  pub at_end : IfOk result (λ n. n ≡ 0 → IfSome left (λ bytes. bytes ≡ []))
  -- If it failed, nothing was taken.
  pub failed_takes_nothing : OnErr result (left ≡ rest)
