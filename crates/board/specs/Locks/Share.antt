-- Shares of one whole: a fraction as a count of parts of a power of two (this project's profile).
use Rattle.std.specs.Prelude.{◌≡◌, ℕ, ◌+◌, ◌*◌, ◌^◌, ◌<◌, List, [], ◌∷◌}
use base.Stored.{Coded, coded×, coded_ℕ, coded_via}

-- The fraction parts / 2 ^ power.
pub record Share : Type 0 where
  pub parts : ℕ
  pub power : ℕ

-- The share 1, with which the first seat begins.
abbrev pub whole : Share
whole = record { parts = 1; power = 0 }

-- The share 0, which a seat has left that was joined into another.
abbrev pub nothing : Share
nothing = record { parts = 0; power = 0 }

-- Half of a share.
abbrev pub half : Share → Share
half s = record { parts = s.parts; power = s.power + 1 }

-- Two shares together, as fractions are added.
abbrev pub both : Share → Share → Share
both s t = record {
  parts = s.parts * 2 ^ t.power + t.parts * 2 ^ s.power;
  power = s.power + t.power;
}

-- All shares of a list together.
abbrev pub total : List Share → Share
total [] = nothing
total (s ∷ ss) = both s (total ss)

-- It is 1; it is 0; it is above 0; both are the same part of the whole.
abbrev pub IsWhole : Share → Type 0
IsWhole s = s.parts ≡ 2 ^ s.power

abbrev pub IsSpent : Share → Type 0
IsSpent s = s.parts ≡ 0

abbrev pub IsAboveZero : Share → Type 0
IsAboveZero s = 0 < s.parts

abbrev pub IsSame : Share → Share → Type 0
IsSame s t = s.parts * 2 ^ t.power ≡ t.parts * 2 ^ s.power

-- The shares of all seats come to the whole.
abbrev pub AddUpToOne : List Share → Type 0
AddUpToOne ss = IsWhole (total ss)

-- How a proof stores a share, if it is ghost data of a struct.
abbrev pub share_coded : Coded Share
share_coded = coded_via (coded× coded_ℕ coded_ℕ) (λ (s : Share). (s.parts, s.power))
    (λ x y e i. record { parts = (e i).0; power = (e i).1 })
