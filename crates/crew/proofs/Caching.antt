-- What a worker keeps in mind stays true, whatever its seat does.
use Rattle.std.proofs.Common.{◌≡◌, ℕ, List, ⊎_elim, refl, sym, subst, arith, ◌∙◌, Option}
use Rattle.std.specs.Prelude.{◌⊎◌, replicate, IsSome, Some, None, IfSome, slice_index_or}
use Rattle.std.proofs.lemmas.List.Elements.{All-same, All-replicate, All-contains}
use Rattle.cfg_model.specs.Program.Instructions.{InstructionMap}
use Rattle.builder_model.specs.declared.state.Waiter.{Waiter}
use Rattle.builder_model.specs.Fact.{Fact}
use Rattle.core_state.specs.Place.{Remembers}
use Rattle.board.specs.Locks.Share.{Share}
use Rattle.board.specs.Slots.{BoardId}
use Rattle.board.specs.Seat.{SeatState, Knows, Values}
use Rattle.board.specs.Calls.{Stays, KnowsTruth}
use Rattle.crew.specs.inner.Worker.{KnowsSoundly, IsSeatAt}
use Rattle.crew.specs.declared.cache.Cache.{Cache}
use Rattle.crew.specs.declared.waiting.Placed.{Placed}
use Rattle.crew.specs.inner.Known.{Caches, IsPlaced, AreCached}

-- At places that are all empty, nothing is kept.
pub none_cached : (n : ℕ) (places : List ℕ) → places ≡ replicate n 18446744073709551615 → (a : ℕ) → ¬ Caches places a
none_cached n places same a at =
    let P : ℕ → Type 0 = λ x. x ≡ 18446744073709551615 in
    let is : a ≡ 18446744073709551615 = All-contains P places a (All-same P places (replicate n 18446744073709551615) same (All-replicate P n 18446744073709551615 refl)) at.0 in
    absurd (omega (arith, is, at.1))

-- A seat stays where it is, with its share.
pub stays_at : (id : BoardId) (part : Share) (old new : SeatState) → IsSeatAt id part old → Stays old new → IsSeatAt id part new
stays_at id part old new at stays = record {
  board = stays.board ∙ at.board;
  share = stays.share ∙ at.share;
  free = λ slot held. at.free slot (subst (λ (holds : List (Option Values)). IsSome (slice_index_or holds slot None)) stays.holds held);
}

-- A seat forgets nothing.
pub still_cached : (map : InstructionMap) (seeds : List ℕ) (cache : Cache) (old new : SeatState)
    → AreCached map seeds cache old → Remembers (Knows map old) (Knows map new) → AreCached map seeds cache new
still_cached map seeds cache old new cached remembers = record {
  started = λ a at. let known = cached.started a at in (remembers (Fact.Start a) known.0, known.1);
  entered = λ a at. let known = cached.entered a at in (remembers (Fact.Terminator a) known.0, known.1);
  returned = λ a at. let known = cached.returned a at in (remembers (Fact.Returned a) known.0, known.1);
  waits = λ k w at. let known = cached.waits k w at in (remembers (Fact.Waits k w) known.0, known.1);
}

-- So what holds of a desk holds after whatever its seat tried.
pub desk_after : {map : InstructionMap} {seeds : List ℕ} {id board : BoardId} {part : Share} {cache : Cache} {old new : SeatState}
    → (board ≡ id) × IsSeatAt id part old × AreCached map seeds cache old → Stays old new
    → Remembers (Knows map old) (Knows map new) → (board ≡ id) × IsSeatAt id part new × AreCached map seeds cache new
desk_after {map} {seeds} {id} {board} {part} {cache} {old} {new} desk stays remembers =
    (desk.0, stays_at id part old new desk.1 stays, still_cached map seeds cache old new desk.2 remembers)

-- One more address, of which the seat knows what it knows of those that are kept.
one_more : (map : InstructionMap) (seeds : List ℕ) (fact : ℕ → Fact) (kept more : List ℕ) (k : ℕ) (seat : SeatState)
    → ((a : ℕ) → Caches kept a → KnowsSoundly map seeds seat (fact a)) → ((b : ℕ) → Caches more b → Caches kept b ⊎ (b ≡ k))
    → KnowsSoundly map seeds seat (fact k) → (a : ℕ) → Caches more a → KnowsSoundly map seeds seat (fact a)
one_more map seeds fact kept more k seat cached only known a at =
    ⊎_elim (cached a) (λ same. subst (λ (b : ℕ). KnowsSoundly map seeds seat (fact b)) (sym same) known) (only a at)

-- One more start, terminator, or returning one.
pub start_cached : (map : InstructionMap) (seeds : List ℕ) (cache : Cache) (more : List ℕ) (s : ℕ) (seat : SeatState)
    → AreCached map seeds cache seat → ((b : ℕ) → Caches more b → Caches cache.starts b ⊎ (b ≡ s))
    → KnowsSoundly map seeds seat (Fact.Start s) → AreCached map seeds (record cache { starts = more }) seat
start_cached map seeds cache more s seat cached only known = record {
  started = one_more map seeds Fact.Start cache.starts more s seat cached.started only known;
  entered = cached.entered;
  returned = cached.returned;
  waits = cached.waits;
}

pub next_cached : (map : InstructionMap) (seeds : List ℕ) (cache : Cache) (more : List ℕ) (next : Option ℕ) (seat : SeatState)
    → AreCached map seeds cache seat → ((b : ℕ) → Caches more b → Caches cache.starts b ⊎ (next ≡ Some b))
    → IfSome next (λ t. KnowsSoundly map seeds seat (Fact.Start t)) → AreCached map seeds (record cache { starts = more }) seat
next_cached map seeds cache more next seat cached only known = record {
  started = λ a at. ⊎_elim (cached.started a) (λ is. subst (λ (o : Option ℕ). IfSome o (λ t. KnowsSoundly map seeds seat (Fact.Start t))) is known) (only a at);
  entered = cached.entered;
  returned = cached.returned;
  waits = cached.waits;
}

-- What the seat knows of a next start is true.
pub next_is_true : (map : InstructionMap) (seeds : List ℕ) (next : Option ℕ) (seat : SeatState) → IfSome next (λ t. Knows map seat (Fact.Start t))
    → KnowsTruth map seeds seat → IfSome next (λ t. KnowsSoundly map seeds seat (Fact.Start t))
next_is_true map seeds None seat known truth = tt
next_is_true map seeds (Some t) seat known truth = (known, truth (Fact.Start t) known)

pub terminator_cached : (map : InstructionMap) (seeds : List ℕ) (cache : Cache) (more : List ℕ) (k : ℕ) (seat : SeatState)
    → AreCached map seeds cache seat → ((b : ℕ) → Caches more b → Caches cache.terminators b ⊎ (b ≡ k))
    → KnowsSoundly map seeds seat (Fact.Terminator k) → AreCached map seeds (record cache { terminators = more }) seat
terminator_cached map seeds cache more k seat cached only known = record {
  started = cached.started;
  entered = one_more map seeds Fact.Terminator cache.terminators more k seat cached.entered only known;
  returned = cached.returned;
  waits = cached.waits;
}

pub returning_cached : (map : InstructionMap) (seeds : List ℕ) (cache : Cache) (more : List ℕ) (k : ℕ) (seat : SeatState)
    → AreCached map seeds cache seat → ((b : ℕ) → Caches more b → Caches cache.returned b ⊎ (b ≡ k))
    → KnowsSoundly map seeds seat (Fact.Returned k) → AreCached map seeds (record cache { returned = more }) seat
returning_cached map seeds cache more k seat cached only known = record {
  started = cached.started;
  entered = cached.entered;
  returned = one_more map seeds Fact.Returned cache.returned more k seat cached.returned only known;
  waits = cached.waits;
}

-- One more waiter, and fewer.
pub waiter_cached : (map : InstructionMap) (seeds : List ℕ) (cache : Cache) (more : List (Option Placed)) (k : ℕ) (w : Waiter) (seat : SeatState)
    → AreCached map seeds cache seat → ((j : ℕ) (v : Waiter) → IsPlaced more j v → IsPlaced cache.waiting j v ⊎ ((j ≡ k) × (v ≡ w)))
    → KnowsSoundly map seeds seat (Fact.Waits k w) → AreCached map seeds (record cache { waiting = more }) seat
waiter_cached map seeds cache more k w seat cached only known = record {
  started = cached.started;
  entered = cached.entered;
  returned = cached.returned;
  waits = λ j v at. ⊎_elim (cached.waits j v)
      (λ same. subst (λ (u : Waiter). KnowsSoundly map seeds seat (Fact.Waits j u)) (sym same.1)
      (subst (λ (i : ℕ). KnowsSoundly map seeds seat (Fact.Waits i w)) (sym same.0) known))
      (only j v at);
}

pub fewer_cached : (map : InstructionMap) (seeds : List ℕ) (cache : Cache) (fewer : List (Option Placed)) (seat : SeatState)
    → AreCached map seeds cache seat → ((j : ℕ) (v : Waiter) → IsPlaced fewer j v → IsPlaced cache.waiting j v)
    → AreCached map seeds (record cache { waiting = fewer }) seat
fewer_cached map seeds cache fewer seat cached only = record {
  started = cached.started;
  entered = cached.entered;
  returned = cached.returned;
  waits = λ j v at. cached.waits j v (only j v at);
}
