-- The bound test of a jump stands near it.
use Rattle.std.specs.Prelude.{◌≡◌, ℕ, ◌+◌, ◌-◌, ◌%◌, ◌≤◌}

-- An address of the section, 4 to 68 bytes before the jump, by whole parcels.
pub record IsNear (start j at : ℕ) : Type 0 where
  pub inside : start ≤ at
  pub before : at + 4 ≤ j
  pub near : j ≤ at + 68
  pub whole : (j - at) % 2 ≡ 0
