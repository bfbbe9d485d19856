-- How names are printed: as visible characters of ASCII alone, so that a name is one field of its
-- line. Names are taken to be non-empty: an empty one would print as an empty field.
use Rattle.std.specs.Prelude.{ℕ, ◌/◌, ◌%◌, ◌==◌, nat_le, ◌&&◌, Bool, false, List, []}
use Rattle.std.specs.Prelude.{◌∷◌, ◌++◌, Option, Some, None, if◌then◌else◌, codes}
use Rattle.std.specs.List.{flat_map}
use Rattle.graph_report.specs.Number.{hex_digit}

-- The names of addresses, as bytes; none if an address has no name.
abbrev pub Names : Type 0
Names = ℕ → Option (List ℕ)

-- The visible characters of ASCII, from 21 to 7E in hexadecimal.
abbrev pub is_visible : ℕ → Bool
is_visible byte = nat_le 33 byte && nat_le byte 126

-- A byte as a backslash, an x and two hexadecimal digits.
abbrev pub escaped_byte : ℕ → List ℕ
escaped_byte byte = codes "\\x" ++ hex_digit (byte / 16) ∷ hex_digit (byte % 16) ∷ []

-- A byte of a name: a backslash is doubled, another visible byte stands for itself, and every other
-- byte is escaped.
abbrev pub name_byte : ℕ → List ℕ
name_byte byte =
    if byte == 92 then codes "\\\\" else (if is_visible byte then byte ∷ [] else escaped_byte byte)

-- The name that is one dash.
abbrev pub is_dash : List ℕ → Bool
is_dash [] = false
is_dash (byte ∷ []) = byte == 45
is_dash (byte ∷ next ∷ rest) = false

-- A name, byte by byte; but the name that is one dash is escaped, since a dash stands for no name.
abbrev pub name_text : List ℕ → List ℕ
name_text name = if is_dash name then escaped_byte 45 else flat_map name_byte name

-- The field for a name that may be missing: a dash if it is.
abbrev pub name_field : Option (List ℕ) → List ℕ
name_field None = codes "-"
name_field (Some name) = name_text name
