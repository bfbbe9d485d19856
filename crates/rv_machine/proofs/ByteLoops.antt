-- Numbers in memory, byte by byte: a step of each loop over them.
use Rattle.std.proofs.Common.{◌≡◌, ℕ, suc, zero, ◌+◌, ◌-◌, ◌*◌, ◌/◌, ◌%◌, ◌^◌, ◌<◌, ◌≤◌, ◌&&◌, Bool, true, false, Option, Some, None, is_some, refl, sym, ap, ◌∙◌, subst, arith, inl, inr, sub-one, lit<}
use Rattle.std.specs.Option.{option_map, option_and_then}
use Rattle.std.proofs.lemmas.Nat.{pow-add}
use Rattle.std.proofs.Math.Pow.{pow_mono}
use Rattle.rv_machine.specs.Memory.{Bytes, next_byte, loaded, has_bytes, put, stored}

pub next-at : (a i : ℕ) → next_byte ((a + i) % 2 ^ 64) ≡ (a + (i + 1)) % 2 ^ 64
next-at a i = omega arith

-- ---- loads, from the last byte to the first

pub loaded-more : (m i a : ℕ) (memory : Bytes) (byte rest : ℕ) → memory ((a + i) % 2 ^ 64) ≡ Some byte → loaded m memory ((a + (i + 1)) % 2 ^ 64) ≡ Some rest → loaded (suc m) memory ((a + i) % 2 ^ 64) ≡ Some (rest * 256 + byte)
loaded-more m i a memory byte rest here there =
    let at : loaded m memory (next_byte ((a + i) % 2 ^ 64)) ≡ Some rest = ap (loaded m memory) (next-at a i) ∙ there in
    let value : byte + 256 * rest ≡ rest * 256 + byte = omega arith in
    ap (λ o. option_and_then (λ low. option_map (λ high. low + 256 * high) (loaded m memory (next_byte ((a + i) % 2 ^ 64)))) o) here
    ∙ ap (λ o. option_map (λ high. byte + 256 * high) o) at
    ∙ ap Some value

-- one byte that is missing
pub loaded-missing : (n j a : ℕ) (memory : Bytes) → j < n → memory ((a + j) % 2 ^ 64) ≡ None → loaded n memory (a % 2 ^ 64) ≡ None
loaded-missing zero j a memory within missing = absurd (omega arith)
loaded-missing (suc n) zero a memory within missing =
    let here : memory (a % 2 ^ 64) ≡ None = ap (λ k. memory (k % 2 ^ 64)) (omega arith) ∙ missing in
    ap (λ o. option_and_then (λ low. option_map (λ high. low + 256 * high) (loaded n memory (next_byte (a % 2 ^ 64)))) o) here
loaded-missing (suc n) (suc j) a memory within missing =
    let at : (a + 1 + j) % 2 ^ 64 ≡ (a + suc j) % 2 ^ 64 = ap (λ k. k % 2 ^ 64) (omega arith) in
    let next : next_byte (a % 2 ^ 64) ≡ (a + 1) % 2 ^ 64 = omega arith in
    let later : loaded n memory (next_byte (a % 2 ^ 64)) ≡ None = ap (loaded n memory) next ∙ loaded-missing n j (a + 1) memory (omega arith) (ap memory at ∙ missing) in
    none-then (memory (a % 2 ^ 64)) (loaded n memory (next_byte (a % 2 ^ 64))) later
  where
    none-then : (first rest : Option ℕ) → rest ≡ None → option_and_then (λ low. option_map (λ high. low + 256 * high) rest) first ≡ None
    none-then None rest h = refl
    none-then (Some low) rest h = ap (λ o. option_map (λ high. low + 256 * high) o) h

-- the bound on the number so far
pub fits-more : (k value byte : ℕ) → value < 2 ^ (8 * k) → byte < 256 → value * 256 + byte < 2 ^ (8 * (k + 1))
fits-more k value byte h b =
    let same : 8 * (k + 1) ≡ 8 * k + 8 = omega arith in
    let power : 2 ^ (8 * (k + 1)) ≡ 2 ^ (8 * k) * 256 = ap (λ n. 2 ^ n) same ∙ pow-add 2 (8 * k) 8 in
    subst (λ n. value * 256 + byte < n) (sym power) (omega arith)

pub room : (k value : ℕ) → k ≤ 7 → value < 2 ^ (8 * k) → value < 2 ^ 56
room k value few h =
    let small : 8 * k ≤ 56 = omega arith in
    let top : 2 ^ (8 * k) ≤ 2 ^ 56 = pow_mono small in
    omega arith

-- ---- tests and stores, from the first byte to the last

pub has-more : (n a : ℕ) (memory : Bytes) → 0 < n → has_bytes n memory a ≡ (is_some (memory a) && has_bytes (n - 1) memory (next_byte a))
has-more zero a memory some = absurd (omega arith)
has-more (suc n) a memory some =
    let same : n ≡ suc n - 1 = omega arith in
    ap (λ k. is_some (memory a) && has_bytes k memory (next_byte a)) same

pub stored-more : (n a value : ℕ) (memory : Bytes) → 0 < n → stored n memory a value ≡ stored (n - 1) (put memory a (value % 256)) (next_byte a) (value / 256)
stored-more zero a value memory some = absurd (omega arith)
stored-more (suc n) a value memory some =
    let same : n ≡ suc n - 1 = omega arith in
    ap (λ k. stored k (put memory a (value % 256)) (next_byte a) (value / 256)) same
