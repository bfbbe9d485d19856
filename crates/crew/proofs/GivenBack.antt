-- What workers side by side give back, where each half of them gives back what it was given.
use Rattle.std.proofs.Common.{◌≡◌, ℕ, ◌+◌, ◌≤◌, List, ◌++◌, length, map, take, drop, get_or, refl, sym, ap, ◌∙◌, subst, arith}
use Rattle.std.specs.Prelude.{Option, Some, None, IsSome, slice_get, replicate}
use Rattle.std.specs.Option.{option_map}
use Rattle.std.proofs.Common.{⊎_elim}
use Rattle.std.proofs.lemmas.Bool.{cases_lt, false≢true}
use Rattle.std.proofs.lemmas.List.{map-append, take-append-drop, length-map, get_or-replicate, get_or_past, length-replicate, length-take, length-drop}
use Rattle.std.proofs.lemmas.List.Elements.{All-same, All-take, All-drop}
use Rattle.std.proofs.lemmas.Option.{slice_get-map, slice_get-get_or, same_Some, none-some}
use Rattle.board.specs.Locks.Share.{Share, half, IsSame}
use Rattle.board.proofs.Locks.Same.{halves, transits, same_both}
use Rattle.board.specs.Slots.{BoardId}
use Rattle.board.specs.Seat.{SeatState, Values, HoldsNothing, with_half, newcomer, with_both, first_seat}
use Rattle.steal_pool.specs.Pool.{PoolValue, HandValue, DequeId, IsHandOf, AreAllHands, workers_of}
use Rattle.crew.specs.inner.Team.{IsFree, AreOf, IsBack, AreBack, which}

-- Of so many empty places each is empty, and so is what lies beyond them.
none_there : (n slot : ℕ) → get_or {A = Option Values} (replicate n None) slot None ≡ None
none_there n slot =
    let none : Option Values = None in
    let past : n ≤ slot → get_or (replicate n none) slot none ≡ none =
    λ h. get_or_past (replicate n none) slot none (subst (λ (x : ℕ). x ≤ slot) (sym (length-replicate n none)) h) in
    ⊎_elim (λ h. get_or-replicate n slot none none h) past (cases_lt slot n)

-- The first seat of a board holds nothing.
pub first_is_free : (id : BoardId) → IsFree id (first_seat id)
first_is_free id = record {
  board = refl;
  nothing = λ slot held. false≢true (subst (λ (o : Option Values). IsSome o) (none_there 192 slot) held);
}

-- Of a seat that is free, both halves of a split are.
pub stays_free : (id : BoardId) (given stays : SeatState) → IsFree id given
    → stays ≡ record given { notes = with_half given.notes } → IsFree id stays
stays_free id given stays free is_half = record {
  board = ap (λ (x : SeatState). x.board) is_half ∙ free.board;
  nothing = subst (λ (x : SeatState). HoldsNothing x) (sym is_half) free.nothing;
}

pub goes_free : (id : BoardId) (given goes : SeatState) → IsFree id given
    → goes ≡ record given { notes = newcomer given.notes } → IsFree id goes
goes_free id given goes free is_new = record {
  board = ap (λ (x : SeatState). x.board) is_new ∙ free.board;
  nothing = subst (λ (x : SeatState). HoldsNothing x) (sym is_new) (first_is_free id).nothing;
}

-- Of hands of a pool, the first ones are such, and the others are, with numbers that begin behind them.
pub low_of : (pool : PoolValue) (first n : ℕ) (hands low : List HandValue) → AreOf pool first hands
    → low ≡ take n hands → n ≤ length hands → AreOf pool first low
low_of pool first n hands low of is_low within = record {
  few = omega (arith, of.few, ap (λ (xs : List HandValue). length xs) is_low, length-take n hands);
  own = All-same (IsHandOf pool) low (take n hands) is_low (All-take (IsHandOf pool) n hands of.own);
}

pub high_of : (pool : PoolValue) (first n : ℕ) (hands high : List HandValue) → AreOf pool first hands
    → high ≡ drop n hands → n ≤ length hands → AreOf pool (first + n) high
high_of pool first n hands high of is_high within = record {
  few = omega (arith, of.few, ap (λ (xs : List HandValue). length xs) is_high, length-drop n hands);
  own = All-same (IsHandOf pool) high (drop n hands) is_high (All-drop (IsHandOf pool) n hands of.own);
}

-- All hands of a pool of 64 at most are such.
pub all_of : (pool : PoolValue) (hands : List HandValue) → AreAllHands pool hands → workers_of pool ≤ 64
    → AreOf pool 0 hands
all_of pool hands all few = record {
  few = omega (arith, all.0);
  own = λ k d within. (all.1 k (get_or hands k d) (slice_get-get_or hands k d within)).0;
}

-- The seats that both halves give back make one with the share that was given.
pub seat_back : (given stays goes left right joined : SeatState)
    → stays ≡ record given { notes = with_half given.notes }
    → goes ≡ record given { notes = newcomer given.notes }
    → IsBack stays left → IsBack goes right
    → joined ≡ record left { notes = with_both left.notes right.notes }
    → IsBack given joined
seat_back given stays goes left right joined is_half is_new l r is_both =
    let s : SeatState → Share = λ x. x.share in
    record {
      board = ap (λ (x : SeatState). x.board) is_both ∙ l.board ∙ ap (λ (x : SeatState). x.board) is_half;
      share =
          subst (λ (x : Share). IsSame x given.share) (sym (ap s is_both))
          (transits _ _ _
          (same_both left.share (half given.share) right.share (half given.share)
          (subst (λ (x : Share). IsSame left.share x) (ap s is_half) l.share)
          (subst (λ (x : Share). IsSame right.share x) (ap s is_new) r.share))
          (halves given.share));
      nothing = subst (λ (x : SeatState). HoldsNothing x) (sym is_both) l.nothing;
    }

-- So do the hands, in their order.
pub hands_back : (n : ℕ) (given low high back_low back_high : List HandValue)
    → low ≡ take n given → high ≡ drop n given → AreBack low back_low → AreBack high back_high
    → AreBack given (back_low ++ back_high)
hands_back n given low high back_low back_high is_low is_high l h =
    map-append which back_low back_high
    ∙ ap (λ (xs : List (List DequeId × ℕ)). xs ++ map which back_high) (l ∙ ap (map which) is_low)
    ∙ ap (λ (xs : List (List DequeId × ℕ)). map which (take n given) ++ xs) (h ∙ ap (map which) is_high)
    ∙ sym (map-append which (take n given) (drop n given))
    ∙ ap (map which) (take-append-drop n given)

-- A hand that is there has one of the same number and deques behind it.
given_there : (given : Option HandValue) (back : HandValue) → option_map which given ≡ Some (which back)
    → (hand : HandValue) × (given ≡ Some hand) × (which hand ≡ which back)
given_there None back e = absurd (none-some (which back) e)
given_there (Some hand) back e = (hand, refl, same_Some {A = List DequeId × ℕ} (which hand) (which back) e)

-- All hands that were given are all hands again.
pub all_back : (pool : PoolValue) (given back : List HandValue) → AreAllHands pool given → AreBack given back
    → AreAllHands pool back
all_back pool given back all same = (
  sym (length-map back which) ∙ ap (λ (xs : List (List DequeId × ℕ)). length xs) same ∙ length-map given which ∙ all.0,
  λ k hand at.
      let there = given_there (slice_get given k) hand
      (sym (slice_get-map which given k) ∙ ap (λ (xs : List (List DequeId × ℕ)). slice_get xs k) (sym same)
      ∙ slice_get-map which back k ∙ ap (λ (o : Option HandValue). option_map which o) at) in
      let was = all.1 k there.0 there.1 in (
        sym (ap (λ (x : List DequeId × ℕ). x.0) there.2) ∙ was.0,
        sym (ap (λ (x : List DequeId × ℕ). x.1) there.2) ∙ was.1,
      ),
)
