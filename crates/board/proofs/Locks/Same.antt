-- One part of the whole, written in two ways.
use Rattle.std.proofs.Common.{◌≡◌, ℕ, ◌+◌, ◌*◌, ◌^◌, ◌<◌, sym, ap, ◌∙◌, refl, arith}
use Rattle.std.proofs.lemmas.Nat.{pow_pos}
use Rattle.board.specs.Locks.Share.{Share, half, both, IsWhole, IsSame}
use Rattle.board.proofs.Locks.Parts.{same_times, powers_meet}

pub halves : (s : Share) → IsSame (both (half s) (half s)) s
halves s =
    let p = s.parts in
    let x : ℕ = 2 ^ (s.power + 1) in
    let y : ℕ = 2 ^ s.power in
    let one : (p * x + p * x) * y ≡ p * (x * (2 * y)) = omega arith in
    one ∙ (ap (λ k. p * (x * k)) (powers_meet 1 s.power (s.power + 1) (omega arith)) ∙ ap (λ k. p * k) (powers_meet (s.power + 1) (s.power + 1) _ refl))

-- the cross products of three fractions a / x, b / y and c / z
across : (a b c x y z : ℕ) → 0 < y → a * y ≡ b * x → b * z ≡ c * y → a * z ≡ c * x
across a b c x y z pos e f =
    let l : a * z * y ≡ a * y * z = omega arith in
    let m : b * x * z ≡ b * z * x = omega arith in
    let r : c * y * x ≡ c * x * y = omega arith in
    same_times (a * z) (c * x) y pos (l ∙ (ap (λ k. k * z) e ∙ (m ∙ (ap (λ k. k * x) f ∙ r))))

pub transits : (s t u : Share) → IsSame s t → IsSame t u → IsSame s u
transits s t u e f = across s.parts t.parts u.parts (2 ^ s.power) (2 ^ t.power) (2 ^ u.power) (pow_pos t.power) e f

pub same_whole : (s t : Share) → IsSame s t → IsWhole t → IsWhole s
same_whole s t e one =
    let f : t.parts * 2 ^ s.power ≡ 2 ^ s.power * 2 ^ t.power = ap (λ k. k * 2 ^ s.power) one ∙ (omega arith) in
    same_times s.parts (2 ^ s.power) (2 ^ t.power) (pow_pos t.power) (e ∙ f)

sums : (a a' b b' x x' y y' : ℕ) → a * x' ≡ a' * x → b * y' ≡ b' * y → (a * y + b * x) * (x' * y') ≡ (a' * y' + b' * x') * (x * y)
sums a a' b b' x x' y y' e f =
    let l : (a * y + b * x) * (x' * y') ≡ a * x' * (y * y') + b * y' * (x * x') = omega arith in
    let r : a' * x * (y * y') + b' * y * (x * x') ≡ (a' * y' + b' * x') * (x * y) = omega arith in
    l ∙ (ap (λ k. k * (y * y') + b * y' * (x * x')) e ∙ (ap (λ k. a' * x * (y * y') + k * (x * x')) f ∙ r))

pub same_both : (s s' t t' : Share) → IsSame s s' → IsSame t t' → IsSame (both s t) (both s' t')
same_both s s' t t' e f =
    let all = sums s.parts s'.parts t.parts t'.parts (2 ^ s.power) (2 ^ s'.power) (2 ^ t.power) (2 ^ t'.power) e f in
    ap (λ k. (s.parts * 2 ^ t.power + t.parts * 2 ^ s.power) * k) (sym (powers_meet s'.power t'.power _ refl))
    ∙ (all ∙ ap (λ k. (s'.parts * 2 ^ t'.power + t'.parts * 2 ^ s'.power) * k) (powers_meet s.power t.power _ refl))
