-- What the private functions of `src/drawn.rt` say of results and their numbers.
use Rattle.std.specs.Prelude.{ℕ, ◌<◌, List, length, Option, IfSome, slice_index_or}
use denote.Param.Members.{Shared}
use Rattle.std.specs.Fn.{FnReturns}

module _ {F X : Type 0} (g : Shared F (ℕ × Unit {0}) X) (f : F) where
  -- a number below count, and a result that a call of f with it may give
  pub record IsResultBelow (count : ℕ) (made : ℕ × X) : Type 0 where
    pub below : made.0 < count
    pub call : FnReturns g f (made.0, tt) made.1

  -- the result at each filled place is one that f may give for that number
  pub record ArePlaced (places : List (Option X)) : Type 0 where
    pub each : (i : ℕ) (d : Option X) → i < length places
        → IfSome (slice_index_or places i d) (λ x. FnReturns g f (i, tt) x)
