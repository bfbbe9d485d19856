-- The chains of a file's instructions: the runs in which control goes straight on, from an
-- instruction to the one right after it. They depend on the bytes of the file alone.
use Rattle.std.specs.Prelude.{◌≡◌, ℕ, ◌+◌, List, Option, Some, None, if◌then◌else◌}
use Rattle.elf_image.specs.Code.{is_code}
use Rattle.rv_flow.specs.Straight.{straight_length_at}

-- The address after a straight instruction of this length at a, if code stands there.
abbrev pub next_behind : List ℕ → ℕ → Option ℕ → Option ℕ
next_behind bytes a None = None
next_behind bytes a (Some n) = if is_code bytes (a + n) then Some (a + n) else None

-- The code address that control goes straight on to from a. A straight instruction without code
-- after it ends a chain.
abbrev pub next_of : List ℕ → ℕ → Option ℕ
next_of bytes a = next_behind bytes a (straight_length_at bytes a)

-- k is the last address of the chain of a: a itself, if control does not go straight on from there,
-- or that of the chain of the next instruction.
pub data IsChainEnd (bytes : List ℕ) : ℕ → ℕ → Type 0 where
  here : {a : ℕ} → next_of bytes a ≡ None → IsChainEnd bytes a a
  on : {a next k : ℕ} → next_of bytes a ≡ Some next → IsChainEnd bytes next k → IsChainEnd bytes a k

-- A chain has one end.
abbrev pub ChainEndIsUnique : Type 0
ChainEndIsUnique =
    (bytes : List ℕ) (a k l : ℕ) → IsChainEnd bytes a k → IsChainEnd bytes a l → k ≡ l
