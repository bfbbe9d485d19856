-- Hexadecimal digits, two for each byte.
use Rattle.std.proofs.Common.{◌≡◌, ℕ, zero, suc, ◌+◌, ◌-◌, ◌*◌, ◌/◌, ◌%◌, ◌^◌, ◌<◌, Bool, true, ◌&&◌, T, eqb, List, [], ◌∷◌, ◌++◌, get_or, take, drop, inl, inr, length, length-drop, append_assoc, append-nil, eq-zero-or-pos, eqb→eq, refl, sym, ◌∙◌, arith}
use Rattle.std.proofs.Math.Nat.{pow-succ'}
use Rattle.std.proofs.lemmas.List.{take-append-le, take_all, drop_all, length-append}
use borrow.Rule.Slice.PartMut.{put_mid, post_of}
use lib.Ieee.Fits.{and_l, and_r}
use Rattle.std.specs.Prelude.{codes}
use Rattle.graph_report.specs.declared.field.TheConstants.{BYTE_DIGITS}
use Rattle.graph_report.specs.Number.{hex_digit, hex_digits}

-- a number of the table's row for a byte
abbrev in_row : ℕ → ℕ → ℕ
in_row b i = get_or (get_or BYTE_DIGITS b []) i 0

-- the row of the table for a byte
abbrev is_row : ℕ → Bool
is_row b = eqb (in_row b 0) (hex_digit (b / 16)) && eqb (in_row b 1) (hex_digit (b % 16))

-- the rows for all bytes below a number
abbrev are_rows : ℕ → Bool
are_rows zero = true
are_rows (suc b) = is_row b && are_rows b

row_below : (n b : ℕ) → T (are_rows n) → b < n → T (is_row b)
row_below zero b t h = absurd (omega arith)
row_below (suc n) b t h =
    elim (eq-zero-or-pos (n - b)) [
      | inl z ↦ let e : b ≡ n = omega arith in rw e (and_l (is_row n) (are_rows n) t)
      | inr g ↦ row_below n b (and_r (is_row n) (are_rows n) t) (omega arith)
    ]

-- the table has the two digits of each byte
pub two_digits : (b : ℕ) → b < 256 → in_row b 0 ∷ in_row b 1 ∷ [] ≡ hex_digits 2 b
unfolding hex_digits
two_digits b small =
    let row = row_below 256 b tt small in
    let high : in_row b 0 ≡ hex_digit (b / 16) = eqb→eq _ _ (and_l (eqb (in_row b 0) (hex_digit (b / 16))) (eqb (in_row b 1) (hex_digit (b % 16))) row) in
    let low : in_row b 1 ≡ hex_digit (b % 16) = eqb→eq _ _ (and_r (eqb (in_row b 0) (hex_digit (b / 16))) (eqb (in_row b 1) (hex_digit (b % 16))) row) in
    let above : b / 16 % 16 ≡ b / 16 = omega arith in
    rw (high, low, above) refl

-- the last digits are those of what is below, and those in front of what is above
pub digits_split : (n m all a above below : ℕ) → all ≡ n + m → a ≡ above * 16 ^ m + below → below < 16 ^ m → hex_digits all a ≡ hex_digits n above ++ hex_digits m below
unfolding hex_digits
digits_split n zero all a above below count whole small =
    let same : a ≡ above = omega arith in
    let only : all ≡ n = omega arith in
    rw (only, same) (sym (append-nil (hex_digits n above)))
digits_split n (suc m) zero a above below count whole small = absurd (omega arith)
digits_split n (suc m) (suc all) a above below count whole small =
    let unit : 16 ^ suc m ≡ 16 * 16 ^ m = pow-succ' 16 m in
    let scaled : above * (16 * 16 ^ m) ≡ 16 * (above * 16 ^ m) = omega arith in
    let whole_is : a ≡ 16 * (above * 16 ^ m) + below = whole ∙ rw (unit, scaled) refl in
    let up : a / 16 ≡ above * 16 ^ m + below / 16 = omega arith in
    let last : a % 16 ≡ below % 16 = omega arith in
    rw (digits_split n m all (a / 16) above (below / 16) (omega arith) up (omega (arith, unit)), last) (append_assoc (hex_digits n above) (hex_digits m (below / 16)) (hex_digit (below % 16) ∷ []))

-- eight digits are those of four bytes
pub four_bytes : (a : ℕ) → a < 2 ^ 32 → hex_digits 8 a ≡ hex_digits 2 (a / 256 ^ 3 % 256) ++ hex_digits 2 (a / 256 ^ 2 % 256) ++ hex_digits 2 (a / 256 % 256) ++ hex_digits 2 (a % 256)
four_bytes a small =
    digits_split 6 2 8 a (a / 256) (a % 256) refl (omega arith) (omega arith)
    ∙ rw (digits_split 4 2 6 (a / 256) (a / 256 ^ 2) (a / 256 % 256) refl (omega arith) (omega arith), digits_split 2 2 4 (a / 256 ^ 2) (a / 256 ^ 3 % 256) (a / 256 ^ 2 % 256) refl (omega arith) (omega arith)) refl

-- an address has the digits of its two halves
pub two_halves : (a high low : ℕ) → high ≡ a / 2 ^ 32 → low ≡ a % 2 ^ 32 → hex_digits 8 high ++ hex_digits 8 low ≡ hex_digits 16 a
two_halves a high low above below = sym (digits_split 8 8 16 a high low refl (omega arith) (omega arith))

-- the digits of a half that is 0
pub no_half : (high : ℕ) → high ≡ 0 → codes "00000000" ≡ hex_digits 8 high
unfolding hex_digits
no_half high none = rw none refl

-- a list after a write to its end
pub end_written : (a k : ℕ) (xs front rest ys : List ℕ) → xs ≡ front ++ rest → length front ≡ a → length rest ≡ k → put_mid a k xs ys ≡ front ++ ys
end_written a k xs front rest ys whole front_long rest_long =
    let none : post_of a k (front ++ rest) ≡ [] = drop_all k (drop a (front ++ rest)) (omega (arith, length-drop a (front ++ rest), length-append front rest)) in
    let kept : take a (front ++ rest) ≡ front = take-append-le a front rest (omega arith) ∙ take_all a front (omega arith) in
    rw (whole, kept, none, append-nil) refl
