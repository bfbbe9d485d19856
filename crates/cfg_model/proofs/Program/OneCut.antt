-- The cuts of tables are determined.
use Rattle.std.proofs.Common.{◌≡◌, ℕ, Option, Some, None, refl, sym}
use Rattle.cfg_model.specs.Program.Cuts.{CutsAreUnique}

same_value : (x y : Option ℕ) → ((kept : ℕ) → x ≡ Some kept → y ≡ Some kept) → ((kept : ℕ) → y ≡ Some kept → x ≡ Some kept) → x ≡ y
same_value (Some kept) y there back = sym (there kept refl)
same_value None (Some kept) there back = back kept refl
same_value None None there back = refl

pub cuts_are_unique : CutsAreUnique
cuts_are_unique tables cuts others one two = λ i j. at j i
  where
    at : (j : ℕ) → cuts j ≡ others j
    at j = same_value (cuts j) (others j) (λ kept e. (two j kept).1 ((one j kept).0 e)) (λ kept e. (one j kept).1 ((two j kept).0 e))
