-- Lists that were made piece by piece.
use Rattle.std.specs.Prelude.{List, [], Vec, Result, Ok, Err, IsOk}
use Rattle.std.specs.List.{flat_map}
use Rattle.std.specs.declared.alloc.Global.{Global}
use Rattle.std.specs.declared.alloc.AllocError.{AllocError}

-- What a worker answers of a piece.
abbrev pub Answered : Type 0 → Type 0
Answered X = Result (Vec X Global) AllocError

-- The answer was made.
abbrev pub AreMade : {X : Type 0} → Answered X → Type 0
AreMade answer = IsOk answer

-- The items of an answer; none if memory ran out.
abbrev pub made_in : {X : Type 0} → Answered X → List X
made_in (Ok made) = made.items
made_in (Err e) = []

-- The items of all these lists, one after another.
abbrev pub all_in : {X : Type 0} → List (Vec X Global) → List X
all_in lists = flat_map (λ list. list.items) lists
