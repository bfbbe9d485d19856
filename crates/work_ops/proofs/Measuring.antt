-- What each kind of work uses up of the measure.
use Rattle.std.proofs.Common.{◌≡◌, ◌≢◌, ℕ, suc, ◌+◌, ◌*◌, ◌^◌, ◌<◌, ◌≤◌, Bool, true, false, refl, subst, sym, ap, ◌∙◌, arith}
use Rattle.std.specs.Prelude.{Option, Some, None, IsSome, IsTrue, not, ◌&&◌, ◌||◌, ◌==◌, if◌then◌else◌}
use Rattle.std.specs.Option.{option_map, option_map_or}
use mathlib.Core.Logic.{inl, inr}
use Rattle.std.specs.Ordering.{nat_cmp, eq_by_cmp}
use Rattle.std.specs.Cmp.{nat_cmp_total, unsigned_tied}
use Rattle.std.specs.FinMap as maps
use Rattle.std.specs.FinSet as sets
use Rattle.std.proofs.lemmas.Bool.{eq-eqb, ne_eqb}
use Rattle.std.proofs.Math.Nat.{mul-le-mul_left, mul-le-mul_right, pow-le-pow_right, one-le-pow, pow-succ'}
use Rattle.builder_model.specs.declared.state.Mark.{Mark}
use Rattle.builder_model.specs.declared.state.Mark.TheVariants.{Wanted, Parsed}
use Rattle.builder_model.specs.declared.state.WaitKind.{WaitKind}
use Rattle.builder_model.specs.declared.state.WaitKind.TheVariants.{Follow, Release}
use Rattle.builder_model.specs.declared.state.Waiter.{Waiter}
use Rattle.cfg_model.specs.Program.Instructions.{InstructionMap}
use Rattle.builder_model.specs.Waiter.{follower, released}
use Rattle.builder_model.specs.State.{BuilderState, EndMap, EndEntry, IsMoved, moved_at, waiters_at}
use Rattle.builder_model.specs.Event.{Arrives, ArrivesAt, with_displaced, with_settled}
use Rattle.builder_model.specs.Fact.{Fact, Holds}
use Rattle.cfg_model.proofs.Program.MapFacts.{get_here, get_apart}
use Rattle.builder_model.proofs.EndGrowth.{settled_here, settled_apart}
use Rattle.work_ops.specs.Going.{MovesBefore}
use Rattle.work_ops.specs.inner.Measure.{start_left, done_left, told_left, waiting_left, unknown_at, unknown, displaced, to_move, most_to_move, work_left}
use Rattle.work_ops.proofs.Sums.{sum_le, sum_up, sum_down, sum_ones, digits}

false_is : false ≡ true → ⊥
false_is e = cc

-- Of one address: what is known stays so.

start_left_le : (o n : Option Mark) → (IsSome o → IsSome n) → (o ≡ Some Parsed → n ≡ Some Parsed) → start_left n ≤ start_left o
start_left_le None None some parsed = omega arith
start_left_le None (Some Wanted) some parsed = omega arith
start_left_le None (Some Parsed) some parsed = omega arith
start_left_le (Some Wanted) None some parsed = absurd (false_is (some refl))
start_left_le (Some Wanted) (Some Wanted) some parsed = omega arith
start_left_le (Some Wanted) (Some Parsed) some parsed = omega arith
start_left_le (Some Parsed) n some parsed = subst (λ z. start_left z ≤ 0) (sym (parsed refl)) (omega arith)

done_left_le : (b c : Bool) → (IsTrue b → IsTrue c) → done_left c ≤ done_left b
done_left_le true c stays = subst (λ z. done_left z ≤ 0) (sym (stays refl)) (omega arith)
done_left_le false true stays = omega arith
done_left_le false false stays = omega arith

told_left_le : (o n : Option Bool) → (o ≡ Some true → n ≡ Some true) → told_left n ≤ told_left o
told_left_le (Some true) n stays = subst (λ z. told_left z ≤ 0) (sym (stays refl)) (omega arith)
told_left_le None None stays = omega arith
told_left_le None (Some true) stays = omega arith
told_left_le None (Some false) stays = omega arith
told_left_le (Some false) None stays = omega arith
told_left_le (Some false) (Some true) stays = omega arith
told_left_le (Some false) (Some false) stays = omega arith

-- And what becomes known uses up one.

start_wanted : (o n : Option Mark) → ¬ IsSome o → IsSome n → start_left n + 1 ≤ start_left o
start_wanted None None new now = absurd (false_is now)
start_wanted None (Some Wanted) new now = omega arith
start_wanted None (Some Parsed) new now = omega arith
start_wanted (Some mark) n new now = absurd (new refl)

start_parsed : (o n : Option Mark) → o ≡ Some Wanted → n ≡ Some Parsed → start_left n + 1 ≤ start_left o
start_parsed o n was is = subst (λ z. start_left z + 1 ≤ start_left o) (sym is) (subst (λ z. 0 + 1 ≤ start_left z) (sym was) (omega arith))

done_now : (b c : Bool) → ¬ IsTrue b → IsTrue c → done_left c + 1 ≤ done_left b
done_now true c new now = absurd (new refl)
done_now false c new now = subst (λ z. done_left z + 1 ≤ 1) (sym now) (omega arith)

told_now : (o n : Option Bool) → o ≡ Some false → n ≡ Some true → told_left n + 1 ≤ told_left o
told_now o n was is = subst (λ z. told_left z + 1 ≤ told_left o) (sym is) (subst (λ z. 0 + 1 ≤ told_left z) (sym was) (omega arith))

module _ (map : InstructionMap) (old new : BuilderState) (more : (fact : Fact) → Holds map old fact → Holds map new fact) where
  one_le : (a : ℕ) (w : Waiter) → told_left (maps.get (waiters_at new.terminators a) w) ≤ told_left (maps.get (waiters_at old.terminators a) w)
  one_le a w = told_left_le (maps.get (waiters_at old.terminators a) w) (maps.get (waiters_at new.terminators a) w) (more (Fact.Told a w))

  both_le : (a t : ℕ) → told_left (maps.get (waiters_at new.terminators a) (follower t)) + told_left (maps.get (waiters_at new.terminators a) (released t)) ≤ told_left (maps.get (waiters_at old.terminators a) (follower t)) + told_left (maps.get (waiters_at old.terminators a) (released t))
  both_le a t = omega (arith, one_le a (follower t), one_le a (released t))

  waiting_le : (a : ℕ) → waiting_left new.terminators a ≤ waiting_left old.terminators a
  unfolding waiting_left
  waiting_le a = sum_le (2 ^ 64) _ _ (λ t below. both_le a t)

  starts_le : (a : ℕ) → start_left (maps.get new.starts a) ≤ start_left (maps.get old.starts a)
  starts_le a = start_left_le (maps.get old.starts a) (maps.get new.starts a) (more (Fact.Start a)) (more (Fact.Parsed a))

  done_le : (a : ℕ) → done_left (option_map_or (λ e. e.done) (maps.get new.terminators a) false) ≤ done_left (option_map_or (λ e. e.done) (maps.get old.terminators a) false)
  done_le a = done_left_le (option_map_or (λ e. e.done) (maps.get old.terminators a) false) (option_map_or (λ e. e.done) (maps.get new.terminators a) false) (more (Fact.Done a))

  at_le : (a : ℕ) → unknown_at new a ≤ unknown_at old a
  at_le a = omega (arith, starts_le a, done_le a, waiting_le a)

  pub unknown_le : unknown new ≤ unknown old
  unfolding unknown
  unknown_le = sum_le (2 ^ 64) (unknown_at new) (unknown_at old) (λ a below. at_le a)

  unknown_less : (a : ℕ) → a < 2 ^ 64 → unknown_at new a + 1 ≤ unknown_at old a → unknown new + 1 ≤ unknown old
  unfolding unknown
  unknown_less a fits less = sum_down (2 ^ 64) (unknown_at new) (unknown_at old) a 1 fits (λ i below apart. at_le i) less

  waiting_less : (a t : ℕ) (kind : WaitKind) → t < 2 ^ 64 → maps.get (waiters_at old.terminators a) (record { terminator = t; kind = kind }) ≡ Some false → maps.get (waiters_at new.terminators a) (record { terminator = t; kind = kind }) ≡ Some true
      → told_left (maps.get (waiters_at new.terminators a) (follower t)) + told_left (maps.get (waiters_at new.terminators a) (released t)) + 1 ≤ told_left (maps.get (waiters_at old.terminators a) (follower t)) + told_left (maps.get (waiters_at old.terminators a) (released t))
  waiting_less a t Follow fits was is = omega (arith, told_now _ _ was is, one_le a (released t))
  waiting_less a t Release fits was is = omega (arith, told_now _ _ was is, one_le a (follower t))

  waiters_less : (a : ℕ) (w : Waiter) → w.terminator < 2 ^ 64 → maps.get (waiters_at old.terminators a) w ≡ Some false → maps.get (waiters_at new.terminators a) w ≡ Some true → waiting_left new.terminators a + 1 ≤ waiting_left old.terminators a
  unfolding waiting_left
  waiters_less a w fits was is = sum_down (2 ^ 64) _ _ w.terminator 1 fits (λ t below apart. both_le a t) (waiting_less a w.terminator w.kind fits was is)

  pub want_uses : (s : ℕ) → s < 2 ^ 64 → ¬ IsSome (maps.get old.starts s) → IsSome (maps.get new.starts s) → unknown new + 1 ≤ unknown old
  want_uses s fits was is = unknown_less s fits (omega (arith, start_wanted (maps.get old.starts s) (maps.get new.starts s) was is, done_le s, waiting_le s))

  pub parse_uses : (s : ℕ) → s < 2 ^ 64 → maps.get old.starts s ≡ Some Wanted → maps.get new.starts s ≡ Some Parsed → unknown new + 1 ≤ unknown old
  parse_uses s fits was is = unknown_less s fits (omega (arith, start_parsed (maps.get old.starts s) (maps.get new.starts s) was is, done_le s, waiting_le s))

  pub edges_use : (k : ℕ) → k < 2 ^ 64 → ¬ IsTrue (option_map_or (λ e. e.done) (maps.get old.terminators k) false) → IsTrue (option_map_or (λ e. e.done) (maps.get new.terminators k) false) → unknown new + 1 ≤ unknown old
  edges_use k fits was is = unknown_less k fits (omega (arith, starts_le k, done_now (option_map_or (λ e. e.done) (maps.get old.terminators k) false) (option_map_or (λ e. e.done) (maps.get new.terminators k) false) was is, waiting_le k))

  pub tell_uses : (k : ℕ) (w : Waiter) → k < 2 ^ 64 → w.terminator < 2 ^ 64 → maps.get (waiters_at old.terminators k) w ≡ Some false → maps.get (waiters_at new.terminators k) w ≡ Some true → unknown new + 1 ≤ unknown old
  tell_uses k w fits also was is = unknown_less k fits (omega (arith, starts_le k, done_le k, waiters_less k w also was is))

-- Displaced starts.

abbrev one_if : Bool → ℕ
one_if b = if b then 1 else 0

one_most : (b : Bool) → one_if b ≤ 1
one_most true = omega arith
one_most false = omega arith

displaced_most : (moved : sets.FinSet nat_cmp) → displaced moved ≤ 2 ^ 64
unfolding displaced
displaced_most moved = sum_ones (2 ^ 64) (λ x. one_if (sets.contains moved x)) (λ x. one_most (sets.contains moved x))

tied_not : (q k : ℕ) → q ≢ k → eq_by_cmp nat_cmp q k ≡ false
tied_not q k apart = unsigned_tied q k ∙ ne_eqb q k apart

tied_is : (k : ℕ) → eq_by_cmp nat_cmp k k ≡ true
tied_is k = unsigned_tied k k ∙ eq-eqb k k refl

inserted : (moved : sets.FinSet nat_cmp) (x : ℕ) → displaced (sets.insert moved x) ≤ displaced moved + 1
unfolding displaced
inserted moved x =
    sum_up (2 ^ 64) (λ y. one_if (sets.contains (sets.insert moved x) y)) (λ y. one_if (sets.contains moved y)) x 1
    (λ y below apart. subst (λ b. one_if b ≤ one_if (sets.contains moved y)) (sym (sets.contains-insert nat_cmp_total moved x y ∙ ap (λ b. b || sets.contains moved y) (tied_not y x apart))) (omega arith))
    (omega (arith, one_most (sets.contains (sets.insert moved x) x)))

removed : (moved : sets.FinSet nat_cmp) (x : ℕ) → x < 2 ^ 64 → IsTrue (sets.contains moved x) → displaced (sets.remove moved x) + 1 ≤ displaced moved
unfolding displaced
removed moved x fits has =
    sum_down (2 ^ 64) (λ y. one_if (sets.contains (sets.remove moved x) y)) (λ y. one_if (sets.contains moved y)) x 1 fits
    (λ y below apart. subst (λ b. one_if b ≤ one_if (sets.contains moved y)) (sym (sets.contains-remove nat_cmp_total moved x y ∙ ap (λ b. not b && sets.contains moved y) (tied_not y x apart))) (omega arith))
    (subst (λ b. one_if b + 1 ≤ one_if (sets.contains moved x)) (sym (sets.contains-remove nat_cmp_total moved x x ∙ ap (λ b. not b && sets.contains moved x) (tied_is x)))
    (subst (λ b. 0 + 1 ≤ one_if b) (sym has) (omega arith)))

displaced_by : (b : Bool) (moved : sets.FinSet nat_cmp) (x : ℕ) → displaced (if b then moved else sets.insert moved x) ≤ displaced moved + 1
displaced_by true moved x = omega arith
displaced_by false moved x = inserted moved x

displaced_with : (moved : sets.FinSet nat_cmp) (m x : ℕ) → displaced (with_displaced moved m x) ≤ displaced moved + 1
displaced_with moved m x = displaced_by (x == m) moved x

abbrev moved_in : Option EndEntry → sets.FinSet nat_cmp
moved_in o = option_map_or (λ (e : EndEntry). e.moved) o sets.empty

arrived_at : (map : InstructionMap) (s : ℕ) (o : Option EndEntry) (entry : EndEntry) → Arrives map s o entry → displaced entry.moved ≤ displaced (moved_in o) + 2
arrived_at map s None entry is = subst (λ (m : sets.FinSet nat_cmp). displaced m ≤ displaced sets.empty + 2) (sym (ap (λ (e : EndEntry). e.moved) is)) (omega arith)
arrived_at map s (Some old) entry (inl same) = subst (λ (m : sets.FinSet nat_cmp). displaced m ≤ displaced old.moved + 2) (sym (ap (λ (e : EndEntry). e.moved) same.1)) (omega arith)
arrived_at map s (Some old) entry (inr splits) =
    subst (λ (m : sets.FinSet nat_cmp). displaced m ≤ displaced old.moved + 2) (sym splits.moved)
    (omega (arith, displaced_with old.moved entry.near old.near, displaced_with (with_displaced old.moved entry.near old.near) entry.near s))

-- one number is another and two more, and each counts c times
times_up : (c d e : ℕ) → d ≤ e + 2 → c * d ≤ c * e + c * 2
times_up c d e less = let more : c * d ≤ c * (e + 2) = mul-le-mul_left c less in omega (arith, more)

times_down : (c d e : ℕ) → d + 1 ≤ e → c * d + c ≤ c * e
times_down c d e less = let more : c * (d + 1) ≤ c * e = mul-le-mul_left c less in omega (arith, more)

at_same : (k : ℕ) (old new : EndMap) → maps.get new k ≡ maps.get old k → 3 ^ k * displaced (moved_at new k) ≤ 3 ^ k * displaced (moved_at old k)
at_same k old new same = subst (λ (o : Option EndEntry). 3 ^ k * displaced (moved_in o) ≤ 3 ^ k * displaced (moved_at old k)) (sym same) (omega arith)

arrival_adds : (map : InstructionMap) (k s : ℕ) (old new : EndMap) → ArrivesAt map k s old new → to_move new ≤ to_move old + 3 ^ k * 2
unfolding to_move
arrival_adds map k s old new (entry, arrives, is) =
    sum_up (2 ^ 64) (λ i. 3 ^ i * displaced (moved_at new i)) (λ i. 3 ^ i * displaced (moved_at old i)) k (3 ^ k * 2)
    (λ i below apart. at_same i old new (ap (λ (e : EndMap). maps.get e i) is ∙ get_apart old k entry i apart))
    (times_up (3 ^ k) (displaced (moved_at new k)) (displaced (moved_at old k))
    (subst (λ (o : Option EndEntry). displaced (moved_in o) ≤ displaced (moved_at old k) + 2) (sym (ap (λ (e : EndMap). maps.get e k) is ∙ get_here old k entry)) (arrived_at map s (maps.get old k) entry arrives)))

settled_by : (x : ℕ) (o : Option EndEntry) → x < 2 ^ 64 → IsTrue (sets.contains (moved_in o) x) → displaced (moved_in (option_map (λ (e : EndEntry). record e { moved = sets.remove e.moved x }) o)) + 1 ≤ displaced (moved_in o)
settled_by x None fits has = absurd (false_is (sym (sets.contains-empty nat_cmp x) ∙ has))
settled_by x (Some e) fits has = removed e.moved x fits has

settling_takes : (ends : EndMap) (k x : ℕ) → k < 2 ^ 64 → x < 2 ^ 64 → IsMoved ends k x → to_move (with_settled ends k x) + 3 ^ k ≤ to_move ends
unfolding to_move
settling_takes ends k x fits also has =
    sum_down (2 ^ 64) (λ i. 3 ^ i * displaced (moved_at (with_settled ends k x) i)) (λ i. 3 ^ i * displaced (moved_at ends i)) k (3 ^ k) fits
    (λ i below apart. at_same i ends (with_settled ends k x) (settled_apart ends k x i apart))
    (times_down (3 ^ k) (displaced (moved_at (with_settled ends k x) k)) (displaced (moved_at ends k))
    (subst (λ (o : Option EndEntry). displaced (moved_in o) + 1 ≤ displaced (moved_at ends k)) (sym (settled_here ends k x)) (settled_by x (maps.get ends k) also has)))

two_below : (at k : ℕ) → at < k → 3 ^ at * 2 < 3 ^ k
two_below at k below =
    let more : 3 ^ (at + 1) ≤ 3 ^ k = pow-le-pow_right {n = 3} (omega arith) (omega (arith, below)) in
    let some : 1 ≤ 3 ^ at = one-le-pow at 3 (omega arith) in
    let later : at + 1 ≡ suc at = omega arith in
    let next : 3 ^ (at + 1) ≡ 3 * 3 ^ at = ap (λ z. 3 ^ z) later ∙ pow-succ' 3 at in
    omega (arith, more, some, next)

pub move_uses : (map : InstructionMap) (k x : ℕ) (old new : EndMap) → k < 2 ^ 64 → x < 2 ^ 64 → IsMoved old k x → MovesBefore map k x old new → to_move new < to_move old
move_uses map k x old new fits also has moves =
    let apart : k ≢ moves.at = λ e. omega (arith, e, moves.before) in
    let there = ap (λ (e : EndMap). maps.get e k) moves.arrives.2 ∙ get_apart old moves.at moves.arrives.0 k apart in
    let still : IsMoved moves.mid k x = subst (λ (o : Option EndEntry). IsTrue (sets.contains (moved_in o) x)) (sym there) has in
    let taken = settling_takes moves.mid k x fits also still in
    let gone : to_move new + 3 ^ k ≤ to_move moves.mid = subst (λ (e : EndMap). to_move e + 3 ^ k ≤ to_move moves.mid) (sym moves.settles) taken in
    omega (arith, arrival_adds map moves.at x old moves.mid moves.arrives, gone, two_below moves.at k moves.before)

-- The two together.

to_move_most : (ends : EndMap) → to_move ends ≤ most_to_move
unfolding to_move most_to_move
to_move_most ends = sum_le (2 ^ 64) (λ k. 3 ^ k * displaced (moved_at ends k)) (λ k. 3 ^ k * 2 ^ 64) (λ k below. mul-le-mul_left (3 ^ k) (displaced_most (moved_at ends k)))

pub less_unknown : (old new : BuilderState) → unknown new + 1 ≤ unknown old → work_left new < work_left old
unfolding work_left
less_unknown old new less = digits (unknown old) (to_move old.ends) (unknown new) (to_move new.ends) (most_to_move + 1) (omega (arith, less)) (omega (arith, to_move_most new.ends))

pub less_to_move : (old new : BuilderState) → unknown new ≤ unknown old → to_move new.ends < to_move old.ends → work_left new < work_left old
unfolding work_left
less_to_move old new same less =
    let first : unknown new * (most_to_move + 1) ≤ unknown old * (most_to_move + 1) = mul-le-mul_right (most_to_move + 1) same in
    omega (arith, first, less)

module _ (map : InstructionMap) (old new : BuilderState) (more : (fact : Fact) → Holds map old fact → Holds map new fact) where
  pub want_lowers : (s : ℕ) → s < 2 ^ 64 → ¬ IsSome (maps.get old.starts s) → IsSome (maps.get new.starts s) → work_left new < work_left old
  want_lowers s fits was is = less_unknown old new (want_uses map old new more s fits was is)

  pub parse_lowers : (s : ℕ) → s < 2 ^ 64 → maps.get old.starts s ≡ Some Wanted → maps.get new.starts s ≡ Some Parsed → work_left new < work_left old
  parse_lowers s fits was is = less_unknown old new (parse_uses map old new more s fits was is)

  pub edges_lower : (k : ℕ) → k < 2 ^ 64 → ¬ IsTrue (option_map_or (λ e. e.done) (maps.get old.terminators k) false) → IsTrue (option_map_or (λ e. e.done) (maps.get new.terminators k) false) → work_left new < work_left old
  edges_lower k fits was is = less_unknown old new (edges_use map old new more k fits was is)

  pub tell_lowers : (k : ℕ) (w : Waiter) → k < 2 ^ 64 → w.terminator < 2 ^ 64 → maps.get (waiters_at old.terminators k) w ≡ Some false → maps.get (waiters_at new.terminators k) w ≡ Some true → work_left new < work_left old
  tell_lowers k w fits also was is = less_unknown old new (tell_uses map old new more k w fits also was is)

  pub move_lowers : (k x : ℕ) → k < 2 ^ 64 → x < 2 ^ 64 → IsMoved old.ends k x → MovesBefore map k x old.ends new.ends → work_left new < work_left old
  move_lowers k x fits also has moves = less_to_move old new (unknown_le map old new more) (move_uses map k x old.ends new.ends fits also has moves)
