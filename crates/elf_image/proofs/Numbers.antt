-- What a ULEB128 is, by the place of its last byte.
use Rattle.std.proofs.Common.{◌≡◌, ℕ, suc, ◌+◌, ◌-◌, ◌*◌, ◌%◌, ◌<◌, ◌≤◌, Bool, true, false, ◌&&◌, cond, List, [], ◌∷◌, length, get_or, take, drop, Some, None, eqb, ltb, refl, sym, ap, ◌∙◌, arith, inl, inr}
use Rattle.std.specs.Prelude.{◌⊎◌}
use Rattle.std.specs.List.{list_all, position, position_or_len}
use Rattle.std.specs.Option.{option_map}
use Rattle.std.proofs.lemmas.Bool.{cases_Bool, cond-true, lt-ltb}
use Rattle.std.proofs.lemmas.Bool.Decides.{nat_tests}
use Rattle.elf_image.specs.declared.attributes.Number.{Number}
use Rattle.elf_image.specs.Attributes.{Leb, uleb128}
use Rattle.elf_image.specs.Inner.Attributes.{number_of}

-- the tests of a last byte, and of a byte that adds nothing
abbrev pub is_last : ℕ → Bool
is_last b = ltb b 128

abbrev pub adds_nothing : ℕ → Bool
adds_nothing b = eqb (b % 128) 0

position-here : (b : ℕ) (bs : List ℕ) → is_last b ≡ true → position is_last (b ∷ bs) ≡ Some 0
position-here b bs here = rw here (cond-true (ltb 0 (suc (length bs))) (Some 0) None (lt-ltb 0 (suc (length bs)) (omega arith)))

within-more : (n len : ℕ) → ltb (1 + n) (suc len) ≡ ltb n len
within-more n len = grind (arith, nat_tests)

position-later : (b : ℕ) (bs : List ℕ) → is_last b ≡ false → position is_last (b ∷ bs) ≡ option_map (λ i. 1 + i) (position is_last bs)
position-later b bs later =
    rw later (ap (λ t. cond t (Some (1 + position_or_len is_last bs)) None) (within-more (position_or_len is_last bs) (length bs)) ∙ outside (ltb (position_or_len is_last bs) (length bs)) (position_or_len is_last bs))
  where
    outside : (t : Bool) (n : ℕ) → cond t (Some (1 + n)) None ≡ option_map (λ i. 1 + i) (cond t (Some n) None)
    outside true n = refl
    outside false n = refl

-- a number that is there
pub record IsRead (bytes : List ℕ) (n : Leb) : Type 0 where
  pub some : 0 < n.size
  pub within : n.size ≤ length bytes
  pub place : position is_last bytes ≡ Some (n.size - 1)
  pub low : n.value % 128 ≡ get_or bytes 0 0 % 128
  pub is_zero : eqb n.value 0 ≡ list_all adds_nothing (take n.size bytes)
  pub is_small : ltb n.value 128 ≡ list_all adds_nothing (take (n.size - 1) (drop 1 bytes))

-- one byte
read-one : (b : ℕ) (bs : List ℕ) → is_last b ≡ true → IsRead (b ∷ bs) (record { value = b; size = 1 })
read-one b bs here = record {
  some = omega arith;
  within = omega arith;
  place = position-here b bs here;
  low = refl;
  is_zero = zero_one b (is_below b here);
  is_small = here;
}
  where
    is_below : (b : ℕ) → ltb b 128 ≡ true → b < 128
    is_below b h = grind (arith, nat_tests)

    zero_one : (b : ℕ) → b < 128 → eqb b 0 ≡ (eqb (b % 128) 0 && true)
    zero_one b below = grind (arith, nat_tests)

-- one more byte
low_more : (b h : ℕ) → (b % 128 + 128 * h) % 128 ≡ b % 128
low_more b h = omega arith

zero_more : (b h : ℕ) → eqb (b % 128 + 128 * h) 0 ≡ (eqb (b % 128) 0 && eqb h 0)
zero_more b h = grind (arith, nat_tests)

small_more : (b h : ℕ) → ltb (b % 128 + 128 * h) 128 ≡ eqb h 0
small_more b h = grind (arith, nat_tests)

read-more : (b : ℕ) (bs : List ℕ) (n : Leb) → is_last b ≡ false → IsRead bs n → IsRead (b ∷ bs) (record { value = b % 128 + 128 * n.value; size = n.size + 1 })
read-more b bs n later r =
    let some = r.some in
    let within = r.within in
    let e : n.size + 1 ≡ suc n.size = omega arith in
    let at : n.size + 1 - 1 ≡ n.size = omega arith in
    let at_more : 1 + (n.size - 1) ≡ n.size = omega arith in
    record {
      some = omega arith;
      within = omega arith;
      place = position-later b bs later ∙ ap (option_map (λ i. 1 + i)) r.place ∙ ap Some (at_more ∙ sym at);
      low = low_more b n.value;
      is_zero = zero_more b n.value ∙ ap (λ t. eqb (b % 128) 0 && t) r.is_zero ∙ ap (λ k. list_all adds_nothing (take k (b ∷ bs))) (sym e);
      is_small = small_more b n.value ∙ r.is_zero ∙ ap (λ k. list_all adds_nothing (take k bs)) (sym at);
    }

-- a number is there if a last byte is
pub uleb128-read : (bytes : List ℕ) → ((uleb128 bytes ≡ None) × (position is_last bytes ≡ None)) ⊎ ((n : Leb) × (uleb128 bytes ≡ Some n) × IsRead bytes n)
uleb128-read [] = inl (refl, refl)
uleb128-read (b ∷ bs) =
    elim (cases_Bool (is_last b)) [
      | inl here ↦ inr (record { value = b; size = 1 }, rw here refl, read-one b bs here)
      | inr later ↦ elim (uleb128-read bs) [
        | inl none ↦ inl (rw (later, none.0) refl, position-later b bs later ∙ ap (option_map (λ i. 1 + i)) none.1)
        | inr n ↦ inr (record { value = b % 128 + 128 * n.0.value; size = n.0.size + 1 }, rw (later, n.1) refl, read-more b bs n.0 later n.2)
      ]
    ]

-- what is kept of a number, by the place of its last byte and whether the bytes between add nothing
pub kept-none : (bytes : List ℕ) → position is_last bytes ≡ None → option_map number_of (uleb128 bytes) ≡ None
kept-none bytes none = elim (uleb128-read bytes) [
  | inl r ↦ rw r.0 refl
  | inr r ↦ absurd (differ (r.0.size - 1) (sym none ∙ r.2.place))
]
  where
    differ : (n : ℕ) → None ≡ Some n → ⊥
    differ n e = cc

pub kept-some : (bytes : List ℕ) (last : ℕ) (small : Bool) → position is_last bytes ≡ Some last → small ≡ list_all adds_nothing (take last (drop 1 bytes)) → option_map number_of (uleb128 bytes) ≡ Some (record { low = get_or bytes 0 0 % 128; is_small = small; size = last + 1 })
kept-some bytes last small at all = elim (uleb128-read bytes) [
  | inl r ↦ absurd (differ last (sym r.1 ∙ at))
  | inr r ↦
      let n = r.0 in
      let is : n.size - 1 ≡ last = same (n.size - 1) last (sym r.2.place ∙ at) in
      let some = r.2.some in
      let size : n.size ≡ last + 1 = omega arith in
      let is_small : ltb n.value 128 ≡ small = r.2.is_small ∙ ap (λ k. list_all adds_nothing (take k (drop 1 bytes))) is ∙ sym all in
      rw r.1 (ap Some (made (number_of n) (record { low = get_or bytes 0 0 % 128; is_small = small; size = last + 1 }) r.2.low is_small size))
]
  where
    differ : (n : ℕ) → None ≡ Some n → ⊥
    differ n e = cc

    same : (m n : ℕ) → Some m ≡ Some n → m ≡ n
    same m n e = cc

    made : (a b : Number) → a.low ≡ b.low → a.is_small ≡ b.is_small → a.size ≡ b.size → a ≡ b
    made a b low is_small size = λ i. record { low = low i; is_small = is_small i; size = size i }
