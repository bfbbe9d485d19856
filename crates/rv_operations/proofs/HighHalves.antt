-- The high half of a signed product of 128 bits: nothing is lost on the way.
use Rattle.std.proofs.Common.{◌≡◌, ℕ, suc, ◌+◌, ◌-◌, ◌*◌, ◌/◌, ◌<◌, ◌≤◌, ◌^◌, ap, ap₂, ◌∙◌, sym, subst, refl, arith, lit<}
use Rattle.std.specs.Prelude.{ℤ, pos, negsuc, ◌*ℤ◌, unsigned_abs}
use Rattle.std.specs.Int.{Width, w64, w128, cast_signed, cast_unsigned, int_shr}
use Rattle.std.specs.Int.RustNames.{FitsSigned}
use Rattle.std.proofs.lemmas.Int.{to_z-of_z, fits_signed_mul, fits_signed_from_abs, unsigned_abs-mul}
use Rattle.std.proofs.lemmas.Nat.{mul-le, div_below}
use Rattle.rv_operations.specs.Arithmetic.{high_half}

-- a number of 64 bits as one of 128
fits_wide : (x : ℤ) → FitsSigned w64 x → FitsSigned w128 x
fits_wide x f = record { sfits = omega (arith, f.sfits) }

magnitude : (x : ℤ) → FitsSigned w64 x → unsigned_abs x ≤ 2 ^ 63
magnitude (pos n) f = omega (arith, f.sfits)
magnitude (negsuc n) f = omega (arith, f.sfits)

product_magnitude : (x y : ℤ) → FitsSigned w64 x → unsigned_abs y ≤ 2 ^ 64 - 1 → unsigned_abs (x *ℤ y) ≤ 2 ^ 63 * (2 ^ 64 - 1)
product_magnitude x y f h =
    subst (λ n. n ≤ 2 ^ 63 * (2 ^ 64 - 1)) (sym (unsigned_abs-mul x y))
    (mul-le (unsigned_abs x) (unsigned_abs y) (2 ^ 63) (2 ^ 64 - 1) (magnitude x f) h)

high_fits : (z : ℤ) → unsigned_abs z < 2 ^ 127 → FitsSigned w64 (int_shr z 64)
high_fits (pos n) h = record { sfits = div_below n (2 ^ 64) (2 ^ 63) (lit< tt) (omega arith) }
high_fits (negsuc n) h = record { sfits = div_below n (2 ^ 64) (2 ^ 63) (lit< tt) (omega arith) }

-- what the code's casts make of a number that fits
same : (w : Width) (z to : ℤ) → z ≡ to → FitsSigned w to → cast_signed w (cast_unsigned w z) ≡ to
same w z to e f = ap (λ v. cast_signed w (cast_unsigned w v)) e ∙ to_z-of_z w to f

pub high-is : (x y wide : ℤ) (r : ℕ) → FitsSigned w64 x → FitsSigned w128 y → unsigned_abs y ≤ 2 ^ 64 - 1 → wide ≡ cast_signed w64 (cast_unsigned w64 x) → r ≡ cast_unsigned w64 (cast_signed w64 (cast_unsigned w64 (cast_signed w128 (cast_unsigned w128 (int_shr (cast_signed w128 (cast_unsigned w128 (cast_signed w128 (cast_unsigned w128 wide) *ℤ cast_signed w128 (cast_unsigned w128 y)))) 64))))) → r ≡ high_half x y
high-is x y wide r fx fy h is_wide is =
    let small : unsigned_abs (x *ℤ y) ≤ 2 ^ 63 * (2 ^ 64 - 1) = product_magnitude x y fx h in
    let product_fits : FitsSigned w128 (x *ℤ y) = fits_signed_from_abs w128 (x *ℤ y) (omega arith) in
    let high : FitsSigned w64 (int_shr (x *ℤ y) 64) = high_fits (x *ℤ y) (omega arith) in
    let left = same w128 wide x (is_wide ∙ to_z-of_z w64 x fx) (fits_wide x fx) in
    let right = same w128 y y refl fy in
    let product = same w128 _ (x *ℤ y) (ap₂ (λ a b. a *ℤ b) left right) product_fits in
    let shifted = same w128 _ (int_shr (x *ℤ y) 64) (ap (λ z. int_shr z 64) product) (fits_wide _ high) in
    is ∙ ap (cast_unsigned w64) (same w64 _ (int_shr (x *ℤ y) 64) shifted high)
