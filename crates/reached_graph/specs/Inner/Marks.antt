-- Marks by the numbers of addresses, as they are set.
use Rattle.std.specs.Prelude.{◌≡◌, ℕ, ◌⊎◌}

-- What is new is what is old, and this address.
pub record IsAdded (Old New : ℕ → Type 0) (a : ℕ) : Type 0 where
  pub here : New a
  pub kept : (x : ℕ) → Old x → New x
  pub only : (x : ℕ) → New x → (x ≡ a) ⊎ Old x
