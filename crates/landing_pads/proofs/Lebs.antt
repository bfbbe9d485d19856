-- A LEB128, read from its last byte to its first.
use Rattle.std.proofs.Common.{◌≡◌, ℕ, suc, ◌+◌, ◌-◌, ◌*◌, ◌%◌, ◌^◌, ◌≤◌, true, false, List, [], ◌∷◌, length, get_or, drop, Some, None, Bool, cond, ltb, refl, sym, ap, ◌∙◌, arith, drop-cons, inl, inr}
use Rattle.std.specs.List.{position, position_or_len}
use Rattle.std.proofs.Math.Nat.{mod-add-mod}
use Rattle.std.proofs.lemmas.Bool.{cases_Bool, cond-true, lt-ltb}
use Rattle.std.proofs.lemmas.Bool.Decides.{nat_tests}
use Rattle.std.proofs.lemmas.List.Quantifiers.{position-Some}
use Rattle.elf_image.specs.Attributes.{Leb}
use Rattle.landing_pads.specs.Number.{leb128}

-- a byte below 128 is the last
abbrev is_last : ℕ → Bool
is_last b = ltb b 128

position-here : (b : ℕ) (bs : List ℕ) → is_last b ≡ true → position is_last (b ∷ bs) ≡ Some 0
position-here b bs here = rw here (cond-true (ltb 0 (suc (length bs))) (Some 0) None (lt-ltb 0 (suc (length bs)) (omega arith)))

within-more : (n len : ℕ) → ltb (1 + n) (suc len) ≡ ltb n len
within-more n len = grind (arith, nat_tests)

none-later : (t : Bool) (n : ℕ) → cond t (Some (1 + n)) None ≡ None → cond t (Some n) None ≡ None
none-later true n e = cc
none-later false n e = refl

position-none : (b : ℕ) (bs : List ℕ) → is_last b ≡ false → position is_last (b ∷ bs) ≡ None → position is_last bs ≡ None
position-none b bs later none =
    none-later (ltb (position_or_len is_last bs) (length bs)) (position_or_len is_last bs)
    (ap (λ t. cond t (Some (1 + position_or_len is_last bs)) None) (sym (within-more (position_or_len is_last bs) (length bs))) ∙ rw later at none)

differ : (n : ℕ) → Some n ≡ None → ⊥
differ n e = cc

module _ (last : ℕ → ℕ) where
  -- the last byte alone
  leb-one : (b : ℕ) (bs : List ℕ) → ltb b 128 ≡ true → leb128 last (b ∷ bs) ≡ Some (record { value = last b; size = 1 })
  leb-one b bs here = rw here refl

  -- one more byte before it
  leb-more : (b : ℕ) (bs : List ℕ) (n : Leb) → ltb b 128 ≡ false → leb128 last bs ≡ Some n → leb128 last (b ∷ bs) ≡ Some (record { value = (b % 128 + 128 * n.value) % 2 ^ 64; size = n.size + 1 })
  leb-more b bs n later is = rw (later, is) refl

  -- no last byte
  pub leb-none : (bs : List ℕ) → position (λ b. ltb b 128) bs ≡ None → leb128 last bs ≡ None
  leb-none [] none = refl
  leb-none (b ∷ bs) none = elim (cases_Bool (is_last b)) [
    | inl here ↦ absurd (differ 0 (sym (position-here b bs here) ∙ none))
    | inr later ↦ rw (later, leb-none bs (position-none b bs later none)) refl
  ]

  -- what is read from the byte at i on, where the number ends at `end`
  abbrev pub ReadFrom : List ℕ → ℕ → ℕ → ℕ → Type 0
  ReadFrom bytes end i value = leb128 last (drop i bytes) ≡ Some (record { value = value; size = end + 1 - i })

  pub read-last : (bytes : List ℕ) (end : ℕ) → position (λ b. ltb b 128) bytes ≡ Some end → ReadFrom bytes end end (last (get_or bytes end 0))
  read-last bytes end at =
      let it = position-Some (λ b. ltb b 128) bytes end 0 at in
      let one : end + 1 - end ≡ 1 = omega arith in
      ap (leb128 last) (drop-cons bytes end 0 it.0) ∙ leb-one (get_or bytes end 0) (drop (suc end) bytes) it.1
      ∙ ap (λ n. Some (record { value = last (get_or bytes end 0); size = n })) (sym one)

  pub read-before : (bytes : List ℕ) (end i value : ℕ) → position (λ b. ltb b 128) bytes ≡ Some end → suc i ≤ end → ReadFrom bytes end (suc i) value → ReadFrom bytes end i ((get_or bytes i 0 % 128 + 128 * value) % 2 ^ 64)
  read-before bytes end i value at below read =
      let it = position-Some (λ b. ltb b 128) bytes end 0 at in
      let size : end + 1 - suc i + 1 ≡ end + 1 - i = omega arith in
      ap (leb128 last) (drop-cons bytes i 0 (omega (arith, it.0)))
      ∙ leb-more (get_or bytes i 0) (drop (suc i) bytes) (record { value = value; size = end + 1 - suc i }) (it.2 i (omega arith)) read
      ∙ ap (λ n. Some (record { value = (get_or bytes i 0 % 128 + 128 * value) % 2 ^ 64; size = n })) size

-- the value of one more byte, as it is computed
pub value-before : (b value : ℕ) → ((value * 128) % 2 ^ 64 + b % 128) % 2 ^ 64 ≡ (b % 128 + 128 * value) % 2 ^ 64
value-before b value =
    mod-add-mod (value * 128) (2 ^ 64) (b % 128)
    ∙ ap (λ n. n % 2 ^ 64) (omega arith)
