-- The scattered bits of the B and the J immediate, put together by shifts and `|`.
use Rattle.std.proofs.Common.{◌≡◌, ℕ, ◌+◌, ◌*◌, ◌/◌, ◌%◌, ◌^◌, ◌<◌, bit_and, bit_or, arith}
use Rattle.std.proofs.lemmas.Nat.{or_shifted, and_mask}
use Rattle.rv_decode.specs.Fields.{field}

b_joined : (a b c d : ℕ) → a < 2 → b < 2 → c < 64 → d < 16
    → bit_or (bit_or (bit_or (a * 4096 % 4294967296) (b * 2048 % 4294967296)) (c * 32 % 4294967296)) (d * 2 % 4294967296) ≡ a * 4096 + b * 2048 + c * 32 + d * 2
b_joined a b c d p q r s =
    let a_fits : a * 4096 % 4294967296 ≡ a * 4096 = omega arith in
    let b_fits : b * 2048 % 4294967296 ≡ b * 2048 = omega arith in
    let c_fits : c * 32 % 4294967296 ≡ c * 32 = omega arith in
    let d_fits : d * 2 % 4294967296 ≡ d * 2 = omega arith in
    let ab : bit_or (a * 4096) (b * 2048) ≡ a * 4096 + b * 2048 = or_shifted a 12 (b * 2048) (omega arith) in
    let ab_high : a * 4096 + b * 2048 ≡ (a * 2 + b) * 2048 = omega arith in
    let abc : bit_or ((a * 2 + b) * 2048) (c * 32) ≡ (a * 2 + b) * 2048 + c * 32 = or_shifted (a * 2 + b) 11 (c * 32) (omega arith) in
    let abc_high : (a * 2 + b) * 2048 + c * 32 ≡ ((a * 2 + b) * 64 + c) * 32 = omega arith in
    let abcd : bit_or (((a * 2 + b) * 64 + c) * 32) (d * 2) ≡ ((a * 2 + b) * 64 + c) * 32 + d * 2 = or_shifted ((a * 2 + b) * 64 + c) 5 (d * 2) (omega arith) in
    let whole : ((a * 2 + b) * 64 + c) * 32 + d * 2 ≡ a * 4096 + b * 2048 + c * 32 + d * 2 = omega arith in
    cc

j_joined : (a b c d : ℕ) → a < 2 → b < 256 → c < 2 → d < 1024
    → bit_or (bit_or (bit_or (a * 1048576 % 4294967296) (b * 4096 % 4294967296)) (c * 2048 % 4294967296)) (d * 2 % 4294967296) ≡ a * 1048576 + b * 4096 + c * 2048 + d * 2
j_joined a b c d p q r s =
    let a_fits : a * 1048576 % 4294967296 ≡ a * 1048576 = omega arith in
    let b_fits : b * 4096 % 4294967296 ≡ b * 4096 = omega arith in
    let c_fits : c * 2048 % 4294967296 ≡ c * 2048 = omega arith in
    let d_fits : d * 2 % 4294967296 ≡ d * 2 = omega arith in
    let ab : bit_or (a * 1048576) (b * 4096) ≡ a * 1048576 + b * 4096 = or_shifted a 20 (b * 4096) (omega arith) in
    let ab_high : a * 1048576 + b * 4096 ≡ (a * 256 + b) * 4096 = omega arith in
    let abc : bit_or ((a * 256 + b) * 4096) (c * 2048) ≡ (a * 256 + b) * 4096 + c * 2048 = or_shifted (a * 256 + b) 12 (c * 2048) (omega arith) in
    let abc_high : (a * 256 + b) * 4096 + c * 2048 ≡ ((a * 256 + b) * 2 + c) * 2048 = omega arith in
    let abcd : bit_or (((a * 256 + b) * 2 + c) * 2048) (d * 2) ≡ ((a * 256 + b) * 2 + c) * 2048 + d * 2 = or_shifted ((a * 256 + b) * 2 + c) 11 (d * 2) (omega arith) in
    let whole : ((a * 256 + b) * 2 + c) * 2048 + d * 2 ≡ a * 1048576 + b * 4096 + c * 2048 + d * 2 = omega arith in
    cc

-- what the code of `b_offset` joins
pub b_bits : (w : ℕ) → w < 2 ^ 32
    → bit_or (bit_or (bit_or (w / 2147483648 * 4096 % 4294967296) (bit_and (w / 128) 1 * 2048 % 4294967296)) (bit_and (w / 33554432) 63 * 32 % 4294967296)) (bit_and (w / 256) 15 * 2 % 4294967296)
    ≡ field w 31 31 * 4096 + field w 7 7 * 2048 + field w 30 25 * 32 + field w 11 8 * 2
b_bits w fits =
    let a_is : w / 2147483648 ≡ field w 31 31 = omega arith in
    let b_is : bit_and (w / 128) 1 ≡ field w 7 7 = and_mask (w / 128) 1 in
    let c_is : bit_and (w / 33554432) 63 ≡ field w 30 25 = and_mask (w / 33554432) 6 in
    let d_is : bit_and (w / 256) 15 ≡ field w 11 8 = and_mask (w / 256) 4 in
    let whole = b_joined (field w 31 31) (field w 7 7) (field w 30 25) (field w 11 8) (omega arith) (omega arith) (omega arith) (omega arith) in
    cc

-- what the code of `j_offset` joins
pub j_bits : (w : ℕ) → w < 2 ^ 32
    → bit_or (bit_or (bit_or (w / 2147483648 * 1048576 % 4294967296) (bit_and (w / 4096) 255 * 4096 % 4294967296)) (bit_and (w / 1048576) 1 * 2048 % 4294967296)) (bit_and (w / 2097152) 1023 * 2 % 4294967296)
    ≡ field w 31 31 * 1048576 + field w 19 12 * 4096 + field w 20 20 * 2048 + field w 30 21 * 2
j_bits w fits =
    let a_is : w / 2147483648 ≡ field w 31 31 = omega arith in
    let b_is : bit_and (w / 4096) 255 ≡ field w 19 12 = and_mask (w / 4096) 8 in
    let c_is : bit_and (w / 1048576) 1 ≡ field w 20 20 = and_mask (w / 1048576) 1 in
    let d_is : bit_and (w / 2097152) 1023 ≡ field w 30 21 = and_mask (w / 2097152) 10 in
    let whole = j_joined (field w 31 31) (field w 19 12) (field w 20 20) (field w 30 21) (omega arith) (omega arith) (omega arith) (omega arith) in
    cc
