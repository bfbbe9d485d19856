-- The mask of the node that the way leaves has at least the bits that it had.
use Rattle.std.proofs.Common.{◌≡◌, ◌≢◌, ℕ, not, nat_eq, IsTrue, refl, arith}
use Rattle.std.proofs.lemmas.Bool.Decides.{nat_tests}
use Rattle.std.proofs.lemmas.Nat.{le_or_l}
use Rattle.mask_flow.specs.Inner.{passed}
use Rattle.mask_flow.proofs.Sums.{sum_grows, sum_rises}
use Rattle.mask_flow.proofs.ways.Way.pass.Goals as goal

apart : (x y : ℕ) → IsTrue (not (nat_eq x y)) → x ≢ y
apart x y h = grind (arith, nat_tests)

equal : (x y : ℕ) → (IsTrue (not (nat_eq x y)) → ⊥) → x ≡ y
equal x y h = grind (arith, nat_tests)

pub returns-clause-new : goal.returns-clause-new
unfolding passed
returns-clause-new c = refl

pub returns-clause-grows : goal.returns-clause-grows
returns-clause-grows c = sum_grows _ _ _ c.requires.within.leaves (le_or_l _ _)

pub returns-clause-more : goal.returns-clause-more
returns-clause-more c = λ h. sum_rises _ _ _ c.requires.within.leaves (le_or_l _ _) (apart _ _ h)

pub returns-clause-settled : goal.returns-clause-settled
unfolding passed
returns-clause-settled c = λ h. equal _ _ h
