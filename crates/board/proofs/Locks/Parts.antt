-- Shares written over one common power of two, where they add up as whole numbers do.
use Rattle.std.proofs.Common.{◌≡◌, ℕ, ◌+◌, ◌-◌, ◌*◌, ◌/◌, ◌^◌, ◌<◌, ◌≤◌, List, [], ◌∷◌, sym, ap, ◌∙◌, arith}
use Rattle.std.proofs.lemmas.Nat.{pow-add, pow_pos}
use Rattle.std.proofs.Math.Nat.{mul-div_cancel}
use Rattle.board.specs.Locks.Share.{Share, half, both, total, IsWhole}

-- how many parts of the power n it is
abbrev pub parts_at : ℕ → Share → ℕ
parts_at n s = s.parts * 2 ^ (n - s.power)

abbrev pub parts_in : ℕ → List Share → ℕ
parts_in n [] = 0
parts_in n (s ∷ ss) = parts_at n s + parts_in n ss

pub same_times : (a b k : ℕ) → 0 < k → a * k ≡ b * k → a ≡ b
same_times a b k pos e = sym (mul-div_cancel a pos) ∙ (ap (λ x. x / k) e ∙ mul-div_cancel b pos)

pub powers_meet : (q r n : ℕ) → q + r ≡ n → 2 ^ q * 2 ^ r ≡ 2 ^ n
powers_meet q r n e = sym (pow-add 2 q r) ∙ ap (λ k. 2 ^ k) e

sum_times : (a b x y z u v : ℕ) → x * z ≡ u → y * z ≡ v → (a * x + b * y) * z ≡ a * u + b * v
sum_times a b x y z u v e f =
    let l : (a * x + b * y) * z ≡ a * (x * z) + b * (y * z) = omega arith in
    l ∙ (ap (λ k. a * k + b * (y * z)) e ∙ ap (λ k. a * u + b * k) f)

pub parts_at-both : (n : ℕ) (s t : Share) → s.power + t.power ≤ n → parts_at n (both s t) ≡ parts_at n s + parts_at n t
parts_at-both n s t le =
    sum_times s.parts t.parts (2 ^ t.power) (2 ^ s.power) (2 ^ (n - (s.power + t.power))) _ _
    (powers_meet t.power (n - (s.power + t.power)) (n - s.power) (omega arith))
    (powers_meet s.power (n - (s.power + t.power)) (n - t.power) (omega arith))

pub parts_at-total : (n : ℕ) (ss : List Share) → (total ss).power ≤ n → parts_at n (total ss) ≡ parts_in n ss
parts_at-total n [] le = omega arith
parts_at-total n (s ∷ ss) le =
    parts_at-both n s (total ss) le ∙ ap (λ k. parts_at n s + k) (parts_at-total n ss (omega arith))

pub parts_at-half : (n : ℕ) (s : Share) → s.power + 1 ≤ n → parts_at n (half s) + parts_at n (half s) ≡ parts_at n s
parts_at-half n s le =
    let e : 2 ^ 1 * 2 ^ (n - (s.power + 1)) ≡ 2 ^ (n - s.power) = powers_meet 1 (n - (s.power + 1)) (n - s.power) (omega arith) in
    let l : s.parts * 2 ^ (n - (s.power + 1)) + s.parts * 2 ^ (n - (s.power + 1)) ≡ s.parts * (2 * 2 ^ (n - (s.power + 1))) = omega arith in
    l ∙ ap (λ k. s.parts * k) e

pub whole_at : (n : ℕ) (s : Share) → s.power ≤ n → IsWhole s → parts_at n s ≡ 2 ^ n
whole_at n s le all = ap (λ k. k * 2 ^ (n - s.power)) all ∙ powers_meet s.power (n - s.power) n (omega arith)

pub at_whole : (n : ℕ) (s : Share) → s.power ≤ n → parts_at n s ≡ 2 ^ n → IsWhole s
at_whole n s le e =
    same_times s.parts (2 ^ s.power) (2 ^ (n - s.power)) (pow_pos (n - s.power))
    (e ∙ sym (powers_meet s.power (n - s.power) n (omega arith)))

pub none_at : (n : ℕ) (s : Share) → parts_at n s ≡ 0 → s.parts ≡ 0
none_at n s e = same_times s.parts 0 (2 ^ (n - s.power)) (pow_pos (n - s.power)) (omega (arith, e))

-- shares of the same weight, over each power from some m on, come to the whole together
pub same_weight : (m : ℕ) (ss us : List Share) → ((n : ℕ) → m ≤ n → parts_in n us ≡ parts_in n ss) → IsWhole (total ss) → IsWhole (total us)
same_weight m ss us same all =
    let n : ℕ = m + ((total ss).power + (total us).power) in
    let low : (total ss).power ≤ n = omega arith in
    let high : (total us).power ≤ n = omega arith in
    at_whole n (total us) high
    (parts_at-total n us high ∙ (same n (omega arith) ∙ (sym (parts_at-total n ss low) ∙ whole_at n (total ss) low all)))
