-- How much work a state may still take: a number that each piece of work lowers.
use Rattle.std.specs.Prelude.{ℕ, zero, suc, ◌+◌, ◌*◌, ◌^◌, Bool, true}
use Rattle.std.specs.Prelude.{false, if◌then◌else◌, Option, Some, None}
use Rattle.std.specs.Option.{option_map_or}
use Rattle.std.specs.Ordering.{nat_cmp}
use Rattle.std.specs.FinMap as maps
use Rattle.std.specs.FinSet as sets
use Rattle.builder_model.specs.declared.state.Mark.{Mark}
use Rattle.builder_model.specs.declared.state.Mark.TheVariants.{Wanted, Parsed}
use Rattle.builder_model.specs.Waiter.{follower, released}
use Rattle.builder_model.specs.State.{BuilderState, EndMap, TerminatorMap, moved_at, waiters_at}

-- The sum of what f gives for each number below n.
unfoldable pub sum_below : ℕ → (ℕ → ℕ) → ℕ
sum_below zero f = 0
sum_below (suc n) f = sum_below n f + f n

-- What is unknown of an address as a start: to want it uses up one, and to parse it another one.
abbrev pub start_left : Option Mark → ℕ
start_left None = 2
start_left (Some Wanted) = 1
start_left (Some Parsed) = 0

-- What is unknown of an address as a terminator: to deal with its ways on uses up one.
abbrev pub done_left : Bool → ℕ
done_left true = 0
done_left false = 1

-- What is unknown of a waiter at a terminator: to tell it uses up one.
abbrev pub told_left : Option Bool → ℕ
told_left None = 1
told_left (Some true) = 0
told_left (Some false) = 1

-- What is unknown of all that may wait at an address.
unfoldable pub waiting_left : TerminatorMap → ℕ → ℕ
waiting_left terminators a =
    sum_below (2 ^ 64)
    (λ t. told_left (maps.get (waiters_at terminators a) (follower t))
    + told_left (maps.get (waiters_at terminators a) (released t)))

-- What is unknown of an address, as a start and as a terminator.
abbrev pub unknown_at : BuilderState → ℕ → ℕ
unknown_at state a =
    start_left (maps.get state.starts a)
    + done_left (option_map_or (λ entry. entry.done) (maps.get state.terminators a) false)
    + waiting_left state.terminators a

-- What is unknown of all addresses. What is known stays so, and no change raises this number.
unfoldable pub unknown : BuilderState → ℕ
unknown state = sum_below (2 ^ 64) (unknown_at state)

-- How many addresses are displaced.
unfoldable pub displaced : sets.FinSet nat_cmp → ℕ
displaced moved = sum_below (2 ^ 64) (λ x. if sets.contains moved x then 1 else 0)

-- What the displaced starts weigh: each three times as much as one whose end is an address before.
-- One that is placed leaves its end, and at most two are displaced at an earlier one.
unfoldable pub to_move : EndMap → ℕ
to_move ends = sum_below (2 ^ 64) (λ k. 3 ^ k * displaced (moved_at ends k))

-- The most that they can weigh.
unfoldable pub most_to_move : ℕ
most_to_move = sum_below (2 ^ 64) (λ k. 3 ^ k * 2 ^ 64)

-- What is unknown counts first, and then what has to be moved.
unfoldable pub work_left : BuilderState → ℕ
work_left state = unknown state * (most_to_move + 1) + to_move state.ends
