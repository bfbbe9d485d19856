-- Masks are determined by their bits.
use Rattle.std.proofs.Common.{◌≡◌, ℕ, zero, suc, ◌/◌, ◌%◌, ◌^◌, ◌<◌, ◌≤◌, ◌==◌, List, [], ◌∷◌, refl, sym, ap, ◌∙◌, arith}
use Rattle.std.specs.List.{AllZip}
use Rattle.std.specs.Int.{bit_at}
use Rattle.std.proofs.Math.Nat.{pow-suc}
use Rattle.std.proofs.lemmas.Bool.Decides.{nat_tests, same_from_decides}
use Rattle.std.proofs.lemmas.Nat.Bits.{bit_at_lowest, bit_at-suc}
use Rattle.cfg_model.specs.declared.graph.Function.{Function}
use Rattle.cfg_model.specs.declared.live.Live.{Live}
use Rattle.live_regs.specs.Live.{IsLive}
use Rattle.live_regs.specs.Masks.{has_bit, AreLivesOf, IsMaskOf, IsLiveAt}
use Rattle.live_regs.specs.Unique.{MaskIsUnique, LivesAreUnique, AllLivesAreUnique}

-- numbers below 2 ^ k whose first k bits are the same are equal
same_bits : (k a b : ℕ) → a < 2 ^ k → b < 2 ^ k → ((r : ℕ) → r < k → bit_at a r ≡ bit_at b r) → a ≡ b
same_bits zero a b p q same = omega arith
same_bits (suc k) a b p q same =
    let halves : a / 2 ≡ b / 2 = same_bits k (a / 2) (b / 2) (omega (arith, pow-suc 2 k)) (omega (arith, pow-suc 2 k))
    (λ r low. sym (bit_at-suc a r) ∙ same (suc r) (omega arith) ∙ bit_at-suc b r) in
    let lowest : a % 2 ≡ b % 2 = sym (bit_at_lowest a) ∙ same 0 (omega arith) ∙ bit_at_lowest b in
    omega arith

-- a bit is 0 or 1
bit_by_test : (x y : ℕ) → x < 2 → y < 2 → (x == 1) ≡ (y == 1) → x ≡ y
bit_by_test x y p q same = grind (arith, nat_tests)

pub mask_is_unique : MaskIsUnique
mask_is_unique a b p q same =
    same_bits 32 a b p q (λ r low. bit_by_test (bit_at a r) (bit_at b r) (omega arith) (omega arith) (same r low))

-- masks of the same registers are equal
mask_of_one : (Holds : ℕ → Type 0) (a b : ℕ) → IsMaskOf Holds a → IsMaskOf Holds b → a ≡ b
mask_of_one Holds a b h k =
    mask_is_unique a b h.size k.size (λ r low. same_from_decides {P = (1 ≤ r) × Holds r} (has_bit a r) (has_bit b r) (h.bits r low) (k.bits r low))

zipped_once : {X Y : Type 0} (R : X → Y → Type 0) → ((x : X) (a b : Y) → R x a → R x b → a ≡ b) → (xs : List X) (ys others : List Y) → AllZip R xs ys → AllZip R xs others → ys ≡ others
zipped_once R once [] [] [] h k = refl
zipped_once R once [] [] (b ∷ bs) h k = absurd k
zipped_once R once [] (a ∷ ys) others h k = absurd h
zipped_once R once (x ∷ xs) [] others h k = absurd h
zipped_once R once (x ∷ xs) (a ∷ ys) [] h k = absurd k
zipped_once R once (x ∷ xs) (a ∷ ys) (b ∷ others) h k =
    let one : a ≡ b = once x a b h.0 k.0 in
    let rest : ys ≡ others = zipped_once R once xs ys others h.1 k.1 in
    cc

live_once : (s : ℕ) (a b : Live) → a.block ≡ s → b.block ≡ s → a.mask ≡ b.mask → a ≡ b
live_once s a b p q e =
    let made : ℕ → ℕ → Live = λ x y. record { block = x; mask = y } in
    ap (λ x. made x a.mask) (p ∙ sym q) ∙ ap (λ y. made b.block y) e

pub lives_are_unique : LivesAreUnique
lives_are_unique bytes blocks edges body lives others h k =
    zipped_once (IsLiveAt bytes blocks edges body)
    (λ s a b p q. live_once s a b p.block q.block (mask_of_one (λ r. IsLive bytes blocks edges body r s) a.mask b.mask p.mask q.mask))
    body lives others h k

pub all_lives_are_unique : AllLivesAreUnique
all_lives_are_unique bytes blocks edges functions lives others h k =
    zipped_once (λ (f : Function). AreLivesOf bytes blocks edges f.body)
    (λ f a b p q. lives_are_unique bytes blocks edges f.body a b p q)
    functions lives others h k
