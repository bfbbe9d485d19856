-- Where the parts of a large program of n functions stand: this project's profile.
use Rattle.std.specs.Prelude.{ℕ, ◌+◌, ◌*◌, nat_lt, if◌then◌else◌}

-- slot i of the code, which has 128 bytes
abbrev pub slot_at : ℕ → ℕ
slot_at i = 0x10000 + 128 * i

-- table j of the read-only data, which has 16 bytes
abbrev pub table_at : ℕ → ℕ
table_at j = 0x2000000 + 16 * j

-- the slot that is called for function i: slot n if there is no function i
abbrev pub callee : ℕ → ℕ → ℕ
callee n i = if nat_lt i n then i else n
