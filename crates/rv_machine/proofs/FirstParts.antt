-- The first of several parts that has an address.
use Rattle.std.proofs.Common.{◌≡◌, ℕ, zero, suc, ◌+◌, ◌<◌, ◌≤◌, ◌==◌, Bool, true, false, cond, List, [], ◌∷◌, map, length, get_or, set, Option, Some, None, is_some, refl, sym, ap, ◌∙◌, arith, inl, inr, ltb}
use mathlib.Core.Path.{fun_ext}
use Rattle.std.specs.List.{position, position_or_len}
use Rattle.std.specs.Option.{option_or, option_map}
use Rattle.std.proofs.lemmas.Bool.{cases_Bool, cond-true, cond-false, ltb-false, lt-ltb}
use Rattle.std.proofs.lemmas.Bool.Decides.{nat_tests}
use Rattle.std.proofs.lemmas.List.Quantifiers.{position-Some}
use Rattle.rv_machine.specs.declared.part.Part.{Part}
use Rattle.rv_machine.specs.Memory.{Bytes, put}
use Rattle.rv_machine.specs.FileMemory.{first_of}
use Rattle.rv_machine.specs.Inner.Parts.{has_address, part_bytes}

-- what the parts have
abbrev pub all_bytes : List Part → Bytes
all_bytes parts = first_of (map part_bytes parts)

part-none : (a : ℕ) (p : Part) → has_address a p ≡ false → part_bytes p a ≡ None
part-none a p h = cond-false (has_address a p) _ None h

-- either a byte is there, or it is none
there : (o : Option ℕ) → is_some o ≡ true → (rest : Option ℕ) → option_or o rest ≡ o
there (Some b) h rest = refl
there None h rest = cc

part-some : (a : ℕ) (p : Part) → has_address a p ≡ true → is_some (part_bytes p a) ≡ true
part-some a p h = ap is_some (cond-true (has_address a p) _ None h)

-- the parts before it do not have the address, and it has
pub first-at : (a : ℕ) (ps : List Part) (i : ℕ) (d : Part) → i < length ps → ((k : ℕ) → k < i → has_address a (get_or ps k d) ≡ false) → has_address a (get_or ps i d) ≡ true → all_bytes ps a ≡ part_bytes (get_or ps i d) a
first-at a [] i d within before here = absurd (omega arith)
first-at a (p ∷ ps) zero d within before here = there (part_bytes p a) (part-some a p here) (all_bytes ps a)
first-at a (p ∷ ps) (suc i) d within before here =
    ap (λ o. option_or o (all_bytes ps a)) (part-none a p (before 0 (omega arith)))
    ∙ first-at a ps i d (omega arith) (λ k below. before (suc k) (omega arith)) here

-- no part has the address
pub first-none : (a : ℕ) (ps : List Part) → ((k : ℕ) (d : Part) → k < length ps → has_address a (get_or ps k d) ≡ false) → all_bytes ps a ≡ None
first-none a [] none = refl
first-none a (p ∷ ps) none =
    ap (λ o. option_or o (all_bytes ps a)) (part-none a p (none 0 p (omega arith)))
    ∙ first-none a ps (λ k d below. none (suc k) d (omega arith))

-- a byte written where there is none
put-missing : (memory : Bytes) (a b k : ℕ) (same : Bool) → (k == a) ≡ same → memory a ≡ None → cond same (option_map (λ _. b) (memory k)) (memory k) ≡ memory k
put-missing memory a b k false is none = refl
put-missing memory a b k true is none =
    let e : k ≡ a = grind (arith, nat_tests) in
    let missing : memory k ≡ None = ap memory e ∙ none in
    ap (option_map (λ _. b)) missing ∙ sym missing

pub put-none : (memory : Bytes) (a b : ℕ) → memory a ≡ None → put memory a b ≡ memory
put-none memory a b none = fun_ext (λ k. put-missing memory a b k (k == a) refl none)

-- a write to one memory before another, or after it
map-first : (b : ℕ) (o rest : Option ℕ) → is_some o ≡ true → option_or (option_map (λ _. b) o) rest ≡ option_map (λ _. b) (option_or o rest)
map-first b (Some v) rest h = refl
map-first b None rest h = cc

put-first : (memory later : Bytes) (a b k : ℕ) (same : Bool) → (k == a) ≡ same → is_some (memory a) ≡ true → option_or (cond same (option_map (λ _. b) (memory k)) (memory k)) (later k) ≡ cond same (option_map (λ _. b) (option_or (memory k) (later k))) (option_or (memory k) (later k))
put-first memory later a b k false is has = refl
put-first memory later a b k true is has =
    let e : k ≡ a = grind (arith, nat_tests) in
    map-first b (memory k) (later k) (ap (λ n. is_some (memory n)) e ∙ has)

put-later : (memory later : Bytes) (a b k : ℕ) (same : Bool) → (k == a) ≡ same → memory a ≡ None → option_or (memory k) (cond same (option_map (λ _. b) (later k)) (later k)) ≡ cond same (option_map (λ _. b) (option_or (memory k) (later k))) (option_or (memory k) (later k))
put-later memory later a b k false is none = refl
put-later memory later a b k true is none =
    let e : k ≡ a = grind (arith, nat_tests) in
    let missing : memory k ≡ None = ap memory e ∙ none in
    ap (λ o. option_or o (option_map (λ _. b) (later k))) missing ∙ ap (λ o. option_map (λ _. b) (option_or o (later k))) (sym missing)

-- a write to the first part that has the address is one to all
first-put-at : (a b : ℕ) (ps : List Part) (i : ℕ) (d part : Part) → i < length ps → ((k : ℕ) → k < i → has_address a (get_or ps k d) ≡ false) → has_address a (get_or ps i d) ≡ true → part_bytes part ≡ put (part_bytes (get_or ps i d)) a b → (k : ℕ) → all_bytes (set ps i part) k ≡ put (all_bytes ps) a b k
first-put-at a b [] i d part within before here is k = absurd (omega arith)
first-put-at a b (p ∷ ps) zero d part within before here is k =
    ap (λ (m : Bytes). option_or (m k) (all_bytes ps k)) is
    ∙ put-first (part_bytes p) (all_bytes ps) a b k (k == a) refl (part-some a p here)
first-put-at a b (p ∷ ps) (suc i) d part within before here is k =
    ap (λ o. option_or (part_bytes p k) o) (first-put-at a b ps i d part (omega arith) (λ n below. before (suc n) (omega arith)) here is k)
    ∙ put-later (part_bytes p) (all_bytes ps) a b k (k == a) refl (part-none a p (before 0 (omega arith)))

pub first-put : (a b : ℕ) (ps : List Part) (i : ℕ) (d part : Part) → i < length ps → ((k : ℕ) → k < i → has_address a (get_or ps k d) ≡ false) → has_address a (get_or ps i d) ≡ true → part_bytes part ≡ put (part_bytes (get_or ps i d)) a b → all_bytes (set ps i part) ≡ put (all_bytes ps) a b
first-put a b ps i d part within before here is = fun_ext (first-put-at a b ps i d part within before here is)

-- ---- what `position` found

none-passes : (p : Part → Bool) (xs : List Part) → length xs ≤ position_or_len p xs → (k : ℕ) (d : Part) → k < length xs → p (get_or xs k d) ≡ false
none-passes p [] h k d below = absurd (omega arith)
none-passes p (x ∷ xs) h zero d below = elim (cases_Bool (p x)) [
  | inl passes ↦ let h' = rw passes at h in absurd (omega arith)
  | inr fails ↦ fails
]
none-passes p (x ∷ xs) h (suc k) d below = elim (cases_Bool (p x)) [
  | inl passes ↦ let h' = rw passes at h in absurd (omega arith)
  | inr fails ↦ let h' = rw fails at h in none-passes p xs (omega arith) k d (omega arith)
]

position-none : (p : Part → Bool) (xs : List Part) → position p xs ≡ None → length xs ≤ position_or_len p xs
position-none p xs h = elim (cases_Bool (ltb (position_or_len p xs) (length xs))) [
  | inl below ↦ let h' = rw below at h in cc
  | inr above ↦ ltb-false (position_or_len p xs) (length xs) above
]

pub found-nowhere : (a : ℕ) (ps : List Part) → position (has_address a) ps ≡ None → (k : ℕ) (d : Part) → k < length ps → has_address a (get_or ps k d) ≡ false
found-nowhere a ps h = none-passes (has_address a) ps (position-none (has_address a) ps h)

pub found-none : (a : ℕ) (ps : List Part) → position (has_address a) ps ≡ None → all_bytes ps a ≡ None
found-none a ps h = first-none a ps (none-passes (has_address a) ps (position-none (has_address a) ps h))

module _ (a : ℕ) (ps : List Part) (i : ℕ) (d : Part) (found : position (has_address a) ps ≡ Some i) where
  pub found-has : has_address a (get_or ps i d) ≡ true
  found-has = (position-Some (has_address a) ps i d found).1

  pub found-at : all_bytes ps a ≡ part_bytes (get_or ps i d) a
  found-at =
      let at = position-Some (has_address a) ps i d found in first-at a ps i d at.0 at.2 at.1

  pub found-there : is_some (all_bytes ps a) ≡ true
  found-there = ap is_some found-at ∙ part-some a (get_or ps i d) found-has

  pub found-put : (b : ℕ) (part : Part) → part_bytes part ≡ put (part_bytes (get_or ps i d)) a b → all_bytes (set ps i part) ≡ put (all_bytes ps) a b
  found-put b part is =
      let at = position-Some (has_address a) ps i d found in first-put a b ps i d part at.0 at.2 at.1 is

-- ---- what a search by halves finds

one-on : (a b : ℕ) → a ≡ b → 1 + a ≡ suc b
one-on a b e = omega arith

module _ (p : Part → Bool) where
  first-passes : (xs : List Part) (i : ℕ) (d : Part) → i < length xs → ((k : ℕ) → k < i → p (get_or xs k d) ≡ false) → p (get_or xs i d) ≡ true → position_or_len p xs ≡ i
  first-passes [] i d within before here = absurd (omega arith)
  first-passes (x ∷ xs) zero d within before here = rw here refl
  first-passes (x ∷ xs) (suc i) d within before here =
      rw (before 0 (omega arith)) (one-on (position_or_len p xs) i (first-passes xs i d (omega arith) (λ k below. before (suc k) (omega arith)) here))

  no-passes : (xs : List Part) → ((k : ℕ) (d : Part) → k < length xs → p (get_or xs k d) ≡ false) → position_or_len p xs ≡ length xs
  no-passes [] none = refl
  no-passes (x ∷ xs) none = rw (none 0 x (omega arith)) (one-on (position_or_len p xs) (length xs) (no-passes xs (λ k d below. none (suc k) d (omega arith))))

  pub position-at : (xs : List Part) (i : ℕ) (d : Part) → i < length xs → ((k : ℕ) → k < i → p (get_or xs k d) ≡ false) → p (get_or xs i d) ≡ true → position p xs ≡ Some i
  position-at xs i d within before here =
      ap (λ n. cond (ltb n (length xs)) (Some n) None) (first-passes xs i d within before here)
      ∙ cond-true (ltb i (length xs)) (Some i) None (lt-ltb i (length xs) within)

  pub position-nowhere : (xs : List Part) → ((k : ℕ) (d : Part) → k < length xs → p (get_or xs k d) ≡ false) → position p xs ≡ None
  position-nowhere xs none =
      ap (λ n. cond (ltb n (length xs)) (Some n) None) (no-passes xs none)
      ∙ cond-false (ltb (length xs) (length xs)) (Some (length xs)) None (not-less (length xs))
    where
      not-less : (n : ℕ) → ltb n n ≡ false
      not-less n = grind (arith, nat_tests)

-- ---- one part that changes where a memory o counts before it

pub over-at : (a : ℕ) (ps : List Part) (i : ℕ) (d part : Part) (o : Option ℕ) → i < length ps → (is_some o ≡ true → (k : ℕ) → k < i → has_address a (get_or ps k d) ≡ false) → part_bytes part a ≡ option_or o (part_bytes (get_or ps i d) a) → all_bytes (set ps i part) a ≡ option_or o (all_bytes ps a)
over-at a [] i d part o within before is = absurd (omega arith)
over-at a (p ∷ ps) zero d part None within before is = ap (λ x. option_or x (all_bytes ps a)) is
over-at a (p ∷ ps) zero d part (Some v) within before is = ap (λ x. option_or x (all_bytes ps a)) is
over-at a (p ∷ ps) (suc i) d part None within before is =
    ap (λ x. option_or (part_bytes p a) x) (over-at a ps i d part None (omega arith) (λ h k below. cc) is)
over-at a (p ∷ ps) (suc i) d part (Some v) within before is =
    ap (λ x. option_or x (all_bytes (set ps i part) a)) (part-none a p (before refl 0 (omega arith)))
    ∙ over-at a ps i d part (Some v) (omega arith) (λ h k below. before h (suc k) (omega arith)) is
