-- Edges of a list are marked.
use Rattle.std.specs.Prelude.{◌≡◌, ◌≢◌, ℕ, ◌+◌, ◌*◌, ◌<◌, ◌≤◌, List, length, slice_index_or}
use Rattle.std.specs.Prelude.{All, Contains, IfOk}
use Rattle.cfg_model.specs.declared.graph.Edge.{Edge}
use Rattle.cfg_model.specs.declared.graph.EdgeKind.TheVariants as kinds
use Rattle.cfg_model.specs.declared.graph.Function.{Function}
use Rattle.outline_funcs.specs.Tails.{IsTailAmong, IsMarkOf}
use Rattle.parallel.specs.Lists.{Answered}

-- The edge at place i is marked, and the others are left.
pub record MarksAt (functions : List Function) (i : ℕ) (old new : List Edge) : Type 0 where
  pub same_length : length new ≡ length old
  pub marked : (d : Edge) → IsMarkOf functions (slice_index_or old i d) (slice_index_or new i d)
  pub others : (k : ℕ) (d : Edge) → k ≢ i
      → slice_index_or new k d ≡ slice_index_or old k d

-- The edge at place k is a tail call.
pub record IsTailAt (functions : List Function) (edges : List Edge) (k : ℕ) : Type 0 where
  pub within : k < length edges
  pub tail : (d : Edge) → IsTailAmong functions (slice_index_or edges k d)

-- These are places of tail calls, and of all of those from one place on and before another.
pub record ListsTails
    (functions : List Function) (edges : List Edge) (start until : ℕ) (places : List ℕ)
    : Type 0 where
  pub sound : All (IsTailAt functions edges) places
  pub complete : (k : ℕ) → start ≤ k → k < until → IsTailAt functions edges k → Contains places k

-- Each part of this many edges has an answer, which lists the tail calls in it.
pub record AnswerTails
    (functions : List Function) (edges : List Edge) (size : ℕ) (answers : List (Answered ℕ))
    : Type 0 where
  pub all : length edges ≤ length answers * size
  pub each : (n : ℕ) (d : Answered ℕ) → n < length answers → IfOk (slice_index_or answers n d)
      (λ v. ListsTails functions edges (n * size) (n * size + size) v.items)

-- The same edge: its kind is set to tail exactly if P holds.
pub data IsTailWhere (P : Type 0) (edge : Edge) : Edge → Type 0 where
  tail : P → IsTailWhere P edge (record edge { kind = kinds.Tail })
  same : ¬ P → IsTailWhere P edge edge

-- The same edges in the same order: the kinds of exactly those at these places are set to tail.
pub record AreTailsAt (places : List ℕ) (old new : List Edge) : Type 0 where
  pub same_length : length new ≡ length old
  pub each : (k : ℕ) (d : Edge) → k < length old
      → IsTailWhere (Contains places k) (slice_index_or old k d) (slice_index_or new k d)
