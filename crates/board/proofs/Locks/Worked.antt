-- Shares by computation.
use Rattle.std.proofs.Common.{[], ◌∷◌, refl, arith}
use Rattle.board.specs.Locks.Share.{whole, nothing, half, both, IsWhole, IsSame, AddUpToOne}

-- a half and two quarters are all; two halves and a quarter are more; a half and a quarter are less
a_half_and_two_quarters : AddUpToOne (half whole ∷ half (half whole) ∷ half (half whole) ∷ [])
a_half_and_two_quarters = refl

two_halves_and_a_quarter : ¬ AddUpToOne (half whole ∷ half whole ∷ half (half whole) ∷ [])
two_halves_and_a_quarter e = omega (arith, e)

a_half_and_a_quarter : ¬ AddUpToOne (half whole ∷ half (half whole) ∷ [])
a_half_and_a_quarter e = omega (arith, e)

-- spent shares count for nothing
halves_and_spent : AddUpToOne (nothing ∷ half whole ∷ nothing ∷ half whole ∷ [])
halves_and_spent = refl

-- two quarters are a half, written in another way
two_quarters : IsSame (both (half (half whole)) (half (half whole))) (half whole)
two_quarters = refl

halves_joined : IsWhole (both (half whole) (half whole))
halves_joined = refl
