-- Where turn words lie (this project's profile).
use Rattle.std.specs.Prelude.{ℕ, ◌+◌, ◌*◌}

-- The place of the turn word of slot i among the words, each in a cache line of its own.
abbrev pub turn_word : ℕ → ℕ
turn_word i = 8 * i + 8
