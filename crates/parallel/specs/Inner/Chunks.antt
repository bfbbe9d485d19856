-- What the private functions of `src/chunks.rt` ask of a part of the slice.
use Rattle.std.specs.Prelude.{ℕ, ◌+◌, ◌^◌, ◌<◌, List, length}
use Rattle.std.specs.Fork.Halves.{AllChunks}

-- xs has chunks, P holds of each and of the place where it begins, and its places fit in a `usize` from base on
pub record IsEachChunk {X : Type 0} (P : ℕ → List X → Type 0) (base size : ℕ) (xs : List X) : Type 0 where
  pub filled : 0 < length xs
  pub sized : 0 < size
  pub room : base + length xs < 2 ^ 64
  pub each : AllChunks P base size xs
