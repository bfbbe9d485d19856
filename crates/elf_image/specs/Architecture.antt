-- The extensions that the text of an architecture names (RISC-V Unprivileged ISA 20240411, "ISA
-- Extension Naming Conventions", as compilers write it), and those that a file names.
use Rattle.std.specs.Prelude.{ℕ, zero, suc, ◌==◌, ◌&&◌, ◌||◌, nat_le, Bool, false, List, []}
use Rattle.std.specs.Prelude.{◌∷◌, length, drop, map, reverse, codes, bytes_eq}
use Rattle.std.specs.Prelude.{if◌then◌else◌}
use Rattle.std.specs.Char.{is_ascii_digit, to_ascii_lowercase}
use Rattle.std.specs.List.{list_any, flat_map, slice_split, starts_with}
use Rattle.std.specs.Option.{option_map, option_map_or, option_and_then, unwrap_or}
use Rattle.std.specs.declared.option.Option.{Option}
use Rattle.std.specs.declared.option.Option.TheVariants.{None, Some}
use Rattle.elf_image.specs.declared.extensions.Extensions.{Extensions}
use Rattle.elf_image.specs.Attributes.{architecture}

-- what follows the digits at the front of a text, and the same if there is a digit
abbrev pub skip_digits : List ℕ → List ℕ
skip_digits [] = []
skip_digits (c ∷ cs) = if is_ascii_digit c then skip_digits cs else c ∷ cs

abbrev pub after_digits : List ℕ → Option (List ℕ)
after_digits [] = None
after_digits (c ∷ cs) = if is_ascii_digit c then Some (skip_digits cs) else None

-- what follows a `p`
abbrev pub after_p : List ℕ → Option (List ℕ)
after_p [] = None
after_p (c ∷ cs) = if c == 0x70 then Some cs else None

-- what follows a `p` and digits; all of a text that does not begin with these
abbrev pub after_minor : List ℕ → List ℕ
after_minor text = unwrap_or (option_and_then after_digits (after_p text)) text

-- what follows the longest version at the front of a text, all of it if there is none: digits, or
-- digits, `p`, digits
abbrev pub after_version : List ℕ → List ℕ
after_version text = option_map_or after_minor (after_digits text) text

-- a name less the longest version at its end. A version has the same form from its end.
abbrev pub without_version : List ℕ → List ℕ
without_version name = reverse (after_version (reverse name))

-- a lower-case letter
abbrev pub is_letter : ℕ → Bool
is_letter c = nat_le 0x61 c && nat_le c 0x7A

-- a name of several letters begins with `z`, `s` or `x`
abbrev pub is_start : ℕ → Bool
is_start c = c == 0x7A || c == 0x73 || c == 0x78

-- the names in a text of at most n bytes: letters, each with or without a version, and then a name
-- that goes to the end of the text, if one begins. A text with anything else in it names nothing.
abbrev pub names_from : ℕ → List ℕ → Option (List (List ℕ))
names_from n [] = Some []
names_from zero (c ∷ cs) = None
names_from (suc n) (c ∷ cs) =
    if is_start c then Some (without_version (c ∷ cs) ∷ [])
    else if is_letter c
    then option_map (λ names. (c ∷ []) ∷ names) (names_from n (after_version cs))
    else None

abbrev pub names_of_part : List ℕ → List (List ℕ)
names_of_part part = unwrap_or (names_from (length part) part) []

-- the base, `i`, `e` or `g`, stands at the front of a text
abbrev pub has_base : List ℕ → Bool
has_base [] = false
has_base (c ∷ cs) = c == 0x69 || c == 0x65 || c == 0x67

-- a text begins with a word
abbrev pub begins : List ℕ → List ℕ → Bool
begins word text = starts_with ◌==◌ text word

-- the names in a text in lower case: `rv64`, the base, and parts with `_` between them
abbrev pub names_in : List ℕ → List (List ℕ)
names_in text =
    if begins (codes "rv64") text && has_base (drop 4 text)
    then flat_map names_of_part (slice_split (λ c. c == 0x5F) (drop 4 text))
    else []

-- upper case counts as lower
abbrev pub names : List ℕ → List (List ℕ)
names text = names_in (map to_ascii_lowercase text)

-- one of these words stands among some names
abbrev pub is_named : List (List ℕ) → List (List ℕ) → Bool
is_named words ns = list_any (λ n. list_any (λ word. bytes_eq word n) words) ns

-- `v` names all vectors, and so does each name from `zve` on
abbrev pub is_vector : List ℕ → Bool
is_vector n = bytes_eq (codes "v") n || begins (codes "zve") n

-- the extensions that some names are of, each by itself. `b`, `zk`, `zkn`, `zks` and `zce` stand for
-- several.
abbrev pub all_named : List (List ℕ) → Extensions
all_named ns = record {
  zba = is_named (codes "zba" ∷ codes "b" ∷ []) ns;
  zbb = is_named (codes "zbb" ∷ codes "b" ∷ []) ns;
  zbs = is_named (codes "zbs" ∷ codes "b" ∷ []) ns;
  zbc = is_named (codes "zbc" ∷ []) ns;
  zbkb = is_named (codes "zbkb" ∷ codes "zkn" ∷ codes "zk" ∷ codes "zks" ∷ []) ns;
  zbkc = is_named (codes "zbkc" ∷ codes "zkn" ∷ codes "zk" ∷ codes "zks" ∷ []) ns;
  zbkx = is_named (codes "zbkx" ∷ codes "zkn" ∷ codes "zk" ∷ codes "zks" ∷ []) ns;
  zknd = is_named (codes "zknd" ∷ codes "zkn" ∷ codes "zk" ∷ []) ns;
  zkne = is_named (codes "zkne" ∷ codes "zkn" ∷ codes "zk" ∷ []) ns;
  zknh = is_named (codes "zknh" ∷ codes "zkn" ∷ codes "zk" ∷ []) ns;
  zksed = is_named (codes "zksed" ∷ codes "zks" ∷ []) ns;
  zksh = is_named (codes "zksh" ∷ codes "zks" ∷ []) ns;
  zicond = is_named (codes "zicond" ∷ []) ns;
  zcb = is_named (codes "zcb" ∷ codes "zce" ∷ []) ns;
  zcmp = is_named (codes "zcmp" ∷ codes "zce" ∷ []) ns;
  zcmt = is_named (codes "zcmt" ∷ codes "zce" ∷ []) ns;
  zimop = is_named (codes "zimop" ∷ []) ns;
  zcmop = is_named (codes "zcmop" ∷ []) ns;
  zacas = is_named (codes "zacas" ∷ []) ns;
  zabha = is_named (codes "zabha" ∷ []) ns;
  zawrs = is_named (codes "zawrs" ∷ []) ns;
  zicbom = is_named (codes "zicbom" ∷ []) ns;
  zicboz = is_named (codes "zicboz" ∷ []) ns;
  zicfiss = is_named (codes "zicfiss" ∷ []) ns;
  zicfilp = is_named (codes "zicfilp" ∷ []) ns;
  zfinx = is_named (codes "zfinx" ∷ codes "zdinx" ∷ codes "zhinx" ∷ codes "zhinxmin" ∷ []) ns;
  zhinx = is_named (codes "zhinx" ∷ []) ns;
  zhinxmin = is_named (codes "zhinxmin" ∷ []) ns;
  zfh = is_named (codes "zfh" ∷ []) ns;
  zfhmin = is_named (codes "zfhmin" ∷ []) ns;
  zfa = is_named (codes "zfa" ∷ []) ns;
  zfbfmin = is_named (codes "zfbfmin" ∷ []) ns;
  zvfh = is_named (codes "zvfh" ∷ []) ns;
  vector = list_any is_vector ns;
  xthead = list_any (begins (codes "xthead")) ns;
}

-- Where floats stand in integer registers, what needs registers of floats is not named (chapter
-- "Zfinx, Zdinx, Zhinx, Zhinxmin").
abbrev pub settled : Extensions → Extensions
settled e =
    if e.zfinx
    then record e { zfh = false; zfhmin = false; zfa = false; zfbfmin = false }
    else e

-- the extensions that some names are of together
abbrev pub extensions_named : List (List ℕ) → Extensions
extensions_named ns = settled (all_named ns)

-- the extensions that a file names: those of its text, none without one
unfoldable pub extensions_of : List ℕ → Extensions
extensions_of bytes = extensions_named (option_map_or names (architecture bytes) [])
