-- The first chunk of a list and the rest.
use Rattle.std.proofs.Common.{◌≡◌, ℕ, zero, suc, ◌+◌, ◌*◌, ◌/◌, ◌%◌, ◌<◌, ◌≤◌, List, ◌++◌, length, get_or, take, drop, refl, sym, ap, ◌∙◌, subst, zero-mul, suc-mul, mul-le-mul_right, MutBor, inl, inr, arith}
use Rattle.std.proofs.lemmas.List.{take_all, take-append-le, drop-drop, drop_at, length-drop, length-take, length-append, get_or-take, get_or-drop}
use Rattle.std.proofs.lemmas.Bool.{cases_lt}
use Rattle.std.proofs.lemmas.Nat.{div-add-mod', mod-mul-add, mod_below}
use denote.Param.Members.{Shared}
use Rattle.std.specs.Fork.{slice_chunk, IsChunk, ChangesChunks, IsInChunk}
use Rattle.std.specs.Fork.Halves.{AllChunks, ChangesByChunks}
use Rattle.parallel.specs.Inner.Chunks.{IsEachChunk}

-- a list of one chunk at most
whole : {X : Type 0} (size : ℕ) (xs : List X) → length xs ≤ size → slice_chunk xs size 0 ≡ xs
whole size xs short = ap (λ k. take size (drop k xs)) (zero-mul size) ∙ take_all size xs short

module _ {X : Type 0} (size : ℕ) (xs ys : List X) (full : length xs ≡ size) where
  first_is : slice_chunk (xs ++ ys) size 0 ≡ xs
  first_is = ap (λ k. take size (drop k (xs ++ ys))) (zero-mul size) ∙ (take-append-le size xs ys (omega arith) ∙ take_all size xs (omega arith))

  next_is : (n : ℕ) → slice_chunk (xs ++ ys) size (suc n) ≡ slice_chunk ys size n
  next_is n =
      let start : suc n * size ≡ size + n * size = omega (arith, suc-mul n size) in
      ap (take size) (ap (λ k. drop k (xs ++ ys)) start ∙ (sym (drop-drop (n * size) size (xs ++ ys)) ∙ ap (drop (n * size)) (drop_at xs ys size full)))

carry : {X : Type 0} (P : ℕ → X → Type 0) {i j : ℕ} {x y : X} → i ≡ j → x ≡ y → P i x → P j y
carry P {i} {j} {x} {y} place value holds = subst (λ k. P k y) place (subst (P i) value holds)

module _ {X : Type 0} (P : ℕ → List X → Type 0) (base size : ℕ) where
  alone : (xs : List X) → length xs ≤ size → P base xs → AllChunks P base size xs
  alone xs short here zero inside = carry P (omega (arith, zero-mul size)) (sym (whole size xs short)) here
  alone xs short here (suc n) inside = absurd (omega (arith, suc-mul n size))

  pub only : (xs : List X) → length xs ≤ size → IsEachChunk P base size xs → P base xs
  only xs short ready =
      carry P (omega (arith, zero-mul size)) (whole size xs short) (ready.each 0 (omega (arith, zero-mul size, ready.filled)))

  module _ (all xs ys : List X) (parts : all ≡ xs ++ ys) (full : length xs ≡ size) (ready : IsEachChunk P base size all) where
    pub first_of : IsEachChunk P base size xs
    first_of =
        let sum : length xs + length ys ≡ length all = omega (arith, ap length parts, length-append xs ys) in
        let here : P base xs = carry P (omega (arith, zero-mul size)) (ap (λ l. slice_chunk l size 0) parts ∙ first_is size xs ys full) (ready.each 0 (omega (arith, zero-mul size, ready.filled))) in
        record {
          filled = omega (arith, ready.sized);
          sized = ready.sized;
          room = omega (arith, ready.room);
          each = alone xs (omega arith) here;
        }

    pub rest_of : 0 < length ys → IsEachChunk P (base + size) size ys
    rest_of filled =
        let sum : length xs + length ys ≡ length all = omega (arith, ap length parts, length-append xs ys) in
        record {
          filled = filled;
          sized = ready.sized;
          room = omega (arith, ready.room);
          each = λ n inside. carry P (omega (arith, suc-mul n size)) (ap (λ l. slice_chunk l size (suc n)) parts ∙ next_is size xs ys full n)
              (ready.each (suc n) (omega (arith, suc-mul n size)));
        }

module _ {X : Type 0} (R : ℕ → List X → List X → Type 0) (base size : ℕ) where
  carry_both : {i j : ℕ} {x y x' y' : List X} → i ≡ j → x ≡ x' → y ≡ y' → R i x y → R j x' y'
  carry_both {i} {j} {x} {y} {x'} {y'} place before after holds =
      carry (λ k z. R k z y') place before (subst (R i x) after holds)

  alone_changed : (xs ys : List X) → length xs ≤ size → length ys ≡ length xs → R base xs ys → (n : ℕ) → n * size < length xs → R (base + n * size) (slice_chunk xs size n) (slice_chunk ys size n)
  alone_changed xs ys short same holds zero inside =
      carry_both (omega (arith, zero-mul size)) (sym (whole size xs short)) (sym (whole size ys (omega arith))) holds
  alone_changed xs ys short same holds (suc n) inside = absurd (omega (arith, suc-mul n size))

  pub only_changed : (xs ys : List X) → length xs ≤ size → length ys ≡ length xs → R base xs ys → ChangesByChunks R base size xs ys
  only_changed xs ys short same holds = record { len = same; each = alone_changed xs ys short same holds }

  module _ (all xs ys xs' ys' : List X) (sized : 0 < size) (parts : all ≡ xs ++ ys) (full : length xs ≡ size)
      (first : ChangesByChunks R base size xs xs') (rest : ChangesByChunks R (base + size) size ys ys') where
    each_changed : (n : ℕ) → n * size < length all → R (base + n * size) (slice_chunk all size n) (slice_chunk (xs' ++ ys') size n)
    each_changed zero inside =
        let full' : length xs' ≡ size = first.len ∙ full in
        carry_both refl
        (whole size xs (omega arith) ∙ (sym (first_is size xs ys full) ∙ ap (λ l. slice_chunk l size 0) (sym parts)))
        (whole size xs' (omega arith) ∙ sym (first_is size xs' ys' full'))
        (first.each 0 (omega (arith, zero-mul size)))
    each_changed (suc n) inside =
        let full' : length xs' ≡ size = first.len ∙ full in
        let sum : length xs + length ys ≡ length all = omega (arith, ap length parts, length-append xs ys) in
        carry_both (omega (arith, suc-mul n size))
        (sym (next_is size xs ys full n) ∙ ap (λ l. slice_chunk l size (suc n)) (sym parts))
        (sym (next_is size xs' ys' full' n))
        (rest.each n (omega (arith, suc-mul n size)))

    pub both_changed : ChangesByChunks R base size all (xs' ++ ys')
    both_changed =
        record { len = omega (arith, ap length parts, length-append xs ys, length-append xs' ys', first.len, rest.len); each = each_changed }

-- a chunk that begins in a list of full chunks ends in it
ends_inside : (n count size : ℕ) → n * size < count * size → n * size + size ≤ count * size
ends_inside n count size inside = elim (cases_lt n count) [
  | inl less ↦ omega (arith, mul-le-mul_right size less, suc-mul n size)
  | inr more ↦ absurd (omega (arith, mul-le-mul_right size more))
]

pub is_chunk : {X : Type 0} (xs : List X) (size n : ℕ) → 0 < size → n * size < length xs → IsChunk xs size (n * size) (slice_chunk xs size n)
is_chunk xs size n sized inside =
    let taken = length-take size (drop (n * size) xs) in let left = length-drop (n * size) xs in
    record {
      value = refl;
      start_is_multiple = subst (λ k. k % size ≡ 0) {x = n * size + 0} (omega arith) (mod-mul-add n size 0 sized);
      len = omega arith;
      nonempty = omega arith;
      at_most_size = omega arith;
      in_bounds = omega arith;
      full_size = λ even. let count : length xs / size * size ≡ length xs = omega (arith, div-add-mod' (length xs) size) in omega (arith, ends_inside n (length xs / size) size (omega arith));
      elements = λ k d below. get_or-take size (drop (n * size) xs) k d (omega arith) ∙ get_or-drop (n * size) xs k d;
    }

-- the chunk that holds a place
pub in_chunk : {F X : Type 0} (g : Shared F (ℕ × (MutBor (List X) × Unit {0})) (Unit {0} × (MutBor (List X) × Unit {0}))) (f : F) (size : ℕ) (xs ys : List X) → 0 < size → ChangesChunks g f size xs ys → (i : ℕ) (d : X) → i < length xs → IsInChunk g f size xs ys i d
in_chunk g f size xs ys sized changes i d inside =
    let n = i / size in let o = i % size in
    let adds : n * size + o ≡ i = div-add-mod' i size in
    let low : o < size = mod_below i size sized in
    let begins : n * size < length xs = omega arith in
    let call = changes n begins in
    let is = subst (IsChunk xs size (n * size)) (sym call.argument_is) (is_chunk xs size n sized begins) in
    let len = is.len in
    let read : (zs : List _) → get_or (slice_chunk zs size n) o d ≡ get_or zs i d =
    λ zs. get_or-take size (drop (n * size) zs) o d low ∙ (get_or-drop (n * size) zs o d ∙ ap (λ j. get_or zs j d) adds) in
    record {
      start = n * size;
      offset = o;
      start_plus_offset = adds;
      argument = call.argument;
      argument_is = is;
      offset_in_chunk = omega arith;
      old_element = ap (λ zs. get_or zs o d) call.argument_is ∙ read xs;
      after_call = call.after_call;
      call = call.call;
      new_element = ap (λ zs. get_or zs o d) call.left ∙ read ys;
    }
