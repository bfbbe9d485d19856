-- Words of private functions, which no public contract cites: what each takes from the front of the
-- bytes, and which bytes it leaves; nothing if no such form stands there.
use Rattle.std.specs.Prelude.{ℕ, zero, suc, ◌+◌, ◌-◌, ◌*◌, ◌^◌, ◌&&◌, nat_le, nat_lt, ◌==◌, Bool}
use Rattle.std.specs.Prelude.{if◌then◌else◌, List, [], ◌∷◌, Option, Some, None, codes}
use Rattle.cert_text.specs.declared.lines.ReturnLine.{ReturnLine}
use Rattle.cert_text.specs.declared.lines.ReturnWhy.{ReturnWhy}
use Rattle.cert_text.specs.declared.lines.ReturnWhy.TheVariants.{Itself, To, CallBoth}
use Rattle.cert_text.specs.declared.lines.LeadLine.{LeadLine}
use Rattle.cert_text.specs.declared.lines.LeadWhy.{LeadWhy}
use Rattle.cert_text.specs.declared.lines.LeadWhy.TheVariants.{Seed, From, Join}

infixl 10 ◌>>=◌
abbrev pub ◌>>=◌ : {A B : Type 0} → Option A → (A → Option B) → Option B
None >>= f = None
(Some x) >>= f = f x

-- The first form, or else the second.
abbrev pub or_else : {A : Type 0} → Option A → Option A → Option A
or_else None other = other
or_else (Some x) other = Some x

-- The bytes after a word.
unfoldable pub after : List ℕ → List ℕ → Option (List ℕ)
after [] bytes = Some bytes
after (c ∷ word) [] = None
after (c ∷ word) (b ∷ bytes) = if b == c then after word bytes else None

-- The value of a hexadecimal digit in lower case.
unfoldable pub hex_value : ℕ → Option ℕ
hex_value b =
    if nat_le 48 b && nat_le b 57 then Some (b - 48)
    else (if nat_le 97 b && nat_le b 102 then Some (b - 87) else None)

-- So many hexadecimal digits, after those of a value.
unfoldable pub hex_from : ℕ → ℕ → List ℕ → Option (ℕ × List ℕ)
hex_from zero value bytes = Some (value, bytes)
hex_from (suc count) value [] = None
hex_from (suc count) value (b ∷ bytes) = hex_value b >>= λ d. hex_from count (value * 16 + d) bytes

-- An address, after a space.
unfoldable pub address_at : List ℕ → Option (ℕ × List ℕ)
address_at bytes = after (codes " ") bytes >>= λ rest. hex_from 16 0 rest

-- An address at the end of its line.
unfoldable pub last_address_at : List ℕ → Option (ℕ × List ℕ)
last_address_at bytes = do
  address ← address_at bytes
  rest ← after (codes "\n") address.1
  Some (address.0, rest)

abbrev pub is_digit : ℕ → Bool
is_digit b = nat_le 48 b && nat_le b 57

-- All decimal digits that stand there, after those of a value; nothing if the number has no 64 bits.
unfoldable pub rank_from : ℕ → List ℕ → Option (ℕ × List ℕ)
rank_from value [] = Some (value, [])
rank_from value (b ∷ bytes) =
    if is_digit b then
    (if nat_lt (value * 10 + (b - 48)) (2 ^ 64) then rank_from (value * 10 + (b - 48)) bytes
    else None)
    else Some (value, b ∷ bytes)

-- A rank, after a space: a zero, or digits of which the first is none.
unfoldable pub digits_at : List ℕ → Option (ℕ × List ℕ)
digits_at [] = None
digits_at (b ∷ bytes) =
    if b == 48 then Some (0, bytes)
    else (if is_digit b then rank_from (b - 48) bytes else None)

unfoldable pub rank_at : List ℕ → Option (ℕ × List ℕ)
rank_at bytes = after (codes " ") bytes >>= digits_at

-- A reason to the end of its line.
unfoldable pub to_at : List ℕ → Option (ReturnWhy × List ℕ)
to_at bytes = do
  rest ← after (codes " to") bytes
  target ← last_address_at rest
  Some (To target.0, target.1)

unfoldable pub return_reason_at : List ℕ → Option (ReturnWhy × List ℕ)
return_reason_at bytes =
    or_else (after (codes " self\n") bytes >>= λ rest. Some (Itself, rest))
    (or_else (after (codes " call\n") bytes >>= λ rest. Some (CallBoth, rest)) (to_at bytes))

unfoldable pub from_at : List ℕ → Option (LeadWhy × List ℕ)
from_at bytes = do
  rest ← after (codes " from") bytes
  lead ← last_address_at rest
  Some (From lead.0, lead.1)

unfoldable pub join_at : List ℕ → Option (LeadWhy × List ℕ)
join_at bytes = do
  rest ← after (codes " join") bytes
  first ← address_at rest
  second ← last_address_at first.1
  Some (Join first.0 second.0, second.1)

unfoldable pub lead_reason_at : List ℕ → Option (LeadWhy × List ℕ)
lead_reason_at bytes =
    or_else (after (codes " seed\n") bytes >>= λ rest. Some (Seed, rest))
    (or_else (from_at bytes) (join_at bytes))

-- A line after its word.
unfoldable pub return_at : List ℕ → Option (ReturnLine × List ℕ)
return_at bytes = do
  at ← address_at bytes
  rank ← rank_at at.1
  why ← return_reason_at rank.1
  Some (record { at = at.0; rank = rank.0; why = why.0 }, why.1)

unfoldable pub lead_at : List ℕ → Option (LeadLine × List ℕ)
lead_at bytes = do
  at ← address_at bytes
  rank ← rank_at at.1
  why ← lead_reason_at rank.1
  Some (record { at = at.0; rank = rank.0; why = why.0 }, why.1)
