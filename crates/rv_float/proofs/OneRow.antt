-- No two rows of the float table hold of one word: the opcode and funct7 of a word tell the place of the
-- one row that may hold of it.
use Rattle.std.proofs.Common.{◌≡◌, ℕ, zero, suc, ◌+◌, Bool, true, false, ◌&&◌, ◌||◌, ◌==◌, if◌then◌else◌, List, [], ◌∷◌, slice_get, Some, refl, sym, ap, subst, ◌∙◌, arith}
use Rattle.std.proofs.lemmas.Bool.Decides.{nat_tests}
use Rattle.rv_decode.specs.Fields.{opcode, funct3, funct7, rs2}
use Rattle.rv_float.specs.Table.{Row, is_among, is_operation, rounds, precision, float_rows, memory_rows, fused_rows, operation_rows}
use Rattle.rv_float.specs.Laws.{AtMostOneRowHolds}

-- the place of the row of opcode 53 with this funct7
abbrev place_of_operation : ℕ → ℕ
place_of_operation f =
    if is_among (0x00 ∷ 0x01 ∷ 0x04 ∷ 0x05 ∷ 0x08 ∷ 0x09 ∷ 0x0C ∷ 0x0D ∷ []) f then 6 else
    (if is_among (0x2C ∷ 0x2D ∷ []) f then 7 else
    (if is_among (0x20 ∷ []) f then 8 else
    (if is_among (0x21 ∷ []) f then 9 else
    (if is_among (0x10 ∷ 0x11 ∷ []) f then 10 else
    (if is_among (0x14 ∷ 0x15 ∷ []) f then 11 else
    (if is_among (0x50 ∷ 0x51 ∷ []) f then 12 else
    (if is_among (0x60 ∷ 0x61 ∷ []) f then 13 else
    (if is_among (0x70 ∷ 0x71 ∷ []) f then 14 else
    (if is_among (0x68 ∷ 0x69 ∷ []) f then 15 else 16)))))))))

-- the place of the row with this opcode and funct7
abbrev place : ℕ → ℕ → ℕ
place o f =
    if o == 0x07 then 0 else
    (if o == 0x27 then 1 else
    (if o == 0x43 then 2 else
    (if o == 0x47 then 3 else
    (if o == 0x4B then 4 else
    (if o == 0x4F then 5 else place_of_operation f)))))

abbrev place_of : ℕ → ℕ
place_of w = place (opcode w) (funct7 w)

-- ---- tests that are true

left_true : (a b : Bool) → (a && b) ≡ true → a ≡ true
left_true true b is = refl
left_true false b is = is

right_true : (a b : Bool) → (a && b) ≡ true → b ≡ true
right_true true b is = is
right_true false b is = absurd cc

equal_true : (a b : ℕ) → (a == b) ≡ true → a ≡ b
equal_true a b is = grind (arith, nat_tests)

-- what holds of each of the values holds of a number that is among them
abbrev OfEach : (ℕ → Type 0) → List ℕ → Type 0
OfEach P [] = Unit {0}
OfEach P (v ∷ values) = P v × OfEach P values

among_step : (P : ℕ → Type 0) (v n : ℕ) (rest b : Bool) → (n == v) ≡ b → P v → (rest ≡ true → P n) → (b || rest) ≡ true → P n
among_step P v n rest true is here later among = subst P (sym (equal_true n v is)) here
among_step P v n rest false is here later among = later among

each : (P : ℕ → Type 0) (values : List ℕ) (n : ℕ) → is_among values n ≡ true → OfEach P values → P n
each P [] n among all = absurd cc
each P (v ∷ values) n among all = among_step P v n (is_among values n) (n == v) refl all.0 (λ later. each P values n later all.1) among

-- ---- each row's place

opcode_place : (w o i : ℕ) (b : Bool) → ((f : ℕ) → place o f ≡ i) → (opcode w == o && b) ≡ true → place_of w ≡ i
opcode_place w o i b at is = rw (equal_true (opcode w) o (left_true (opcode w == o) b is)) (at (funct7 w))

operation_place : (w i : ℕ) (functions : List ℕ) (b : Bool) → OfEach (λ f. place_of_operation f ≡ i) functions → (is_operation functions w && b) ≡ true → place_of w ≡ i
operation_place w i functions b all is =
    let operation = left_true (is_operation functions w) b is in
    let code = equal_true (opcode w) 0x53 (left_true (opcode w == 0x53) (is_among functions (funct7 w)) operation) in
    let function = right_true (opcode w == 0x53) (is_among functions (funct7 w)) operation in
    rw code (each (λ f. place_of_operation f ≡ i) functions (funct7 w) function all)

abbrev AreInPlace : List Row → ℕ → ℕ → Type 0
AreInPlace [] w i = Unit {0}
AreInPlace (r ∷ rows) w i = (r.holds w ≡ true → place_of w ≡ i) × AreInPlace rows w (suc i)

found : (rows : List Row) (w at i : ℕ) (r : Row) → AreInPlace rows w at → slice_get rows i ≡ Some r → r.holds w ≡ true → place_of w ≡ at + i
found [] w at i r in_place is held = absurd cc
found (x ∷ rows) w at zero r in_place is held =
    let same : x ≡ r = cc in
    let e = in_place.0 (ap (λ (y : Row). y.holds w) same ∙ held) in
    omega (arith, e)
found (x ∷ rows) w at (suc i) r in_place is held =
    let e = found rows w (suc at) i r in_place.1 is held in
    omega (arith, e)

in_place : (w : ℕ) → AreInPlace float_rows w 0
unfolding float_rows memory_rows fused_rows operation_rows
in_place w = (
  opcode_place w 0x07 0 (is_among (2 ∷ 3 ∷ []) (funct3 w)) (λ f. refl),
  (
    opcode_place w 0x27 1 (is_among (2 ∷ 3 ∷ []) (funct3 w)) (λ f. refl),
    (
      (λ is. opcode_place w 0x43 2 (is_among (0 ∷ 1 ∷ []) (precision w)) (λ f. refl) (left_true _ _ is)),
      (
        (λ is. opcode_place w 0x47 3 (is_among (0 ∷ 1 ∷ []) (precision w)) (λ f. refl) (left_true _ _ is)),
        (
          (λ is. opcode_place w 0x4B 4 (is_among (0 ∷ 1 ∷ []) (precision w)) (λ f. refl) (left_true _ _ is)),
          (
            (λ is. opcode_place w 0x4F 5 (is_among (0 ∷ 1 ∷ []) (precision w)) (λ f. refl) (left_true _ _ is)),
            (
              operation_place w 6 (0x00 ∷ 0x01 ∷ 0x04 ∷ 0x05 ∷ 0x08 ∷ 0x09 ∷ 0x0C ∷ 0x0D ∷ []) (rounds w) (refl, (refl, (refl, (refl, (refl, (refl, (refl, (refl, tt)))))))),
              (
                (λ is. operation_place w 7 (0x2C ∷ 0x2D ∷ []) (rs2 w == 0) (refl, (refl, tt)) (left_true _ _ is)),
                (
                  (λ is. operation_place w 8 (0x20 ∷ []) (rs2 w == 1) (refl, tt) (left_true _ _ is)),
                  (
                    (λ is. operation_place w 9 (0x21 ∷ []) (rs2 w == 0) (refl, tt) (left_true _ _ is)),
                    (
                      operation_place w 10 (0x10 ∷ 0x11 ∷ []) (is_among (0 ∷ 1 ∷ 2 ∷ []) (funct3 w)) (refl, (refl, tt)),
                      (
                        operation_place w 11 (0x14 ∷ 0x15 ∷ []) (is_among (0 ∷ 1 ∷ []) (funct3 w)) (refl, (refl, tt)),
                        (
                          operation_place w 12 (0x50 ∷ 0x51 ∷ []) (is_among (0 ∷ 1 ∷ 2 ∷ []) (funct3 w)) (refl, (refl, tt)),
                          (
                            (λ is. operation_place w 13 (0x60 ∷ 0x61 ∷ []) (is_among (0 ∷ 1 ∷ 2 ∷ 3 ∷ []) (rs2 w)) (refl, (refl, tt)) (left_true _ _ is)),
                            (
                              (λ is. operation_place w 14 (0x70 ∷ 0x71 ∷ []) (rs2 w == 0) (refl, (refl, tt)) (left_true _ _ is)),
                              (
                                (λ is. operation_place w 15 (0x68 ∷ 0x69 ∷ []) (is_among (0 ∷ 1 ∷ 2 ∷ 3 ∷ []) (rs2 w)) (refl, (refl, tt)) (left_true _ _ is)),
                                (
                                  (λ is. operation_place w 16 (0x78 ∷ 0x79 ∷ []) (rs2 w == 0) (refl, (refl, tt)) (left_true _ _ is)),
                                  tt,
                                ),
                              ),
                            ),
                          ),
                        ),
                      ),
                    ),
                  ),
                ),
              ),
            ),
          ),
        ),
      ),
    ),
  ),
)

pub at_most_one_row_holds : AtMostOneRowHolds
at_most_one_row_holds w i j r s at_i at_j r_holds s_holds =
    let first = found float_rows w 0 i r (in_place w) at_i r_holds in
    let second = found float_rows w 0 j s (in_place w) at_j s_holds in
    omega (arith, first, second)
