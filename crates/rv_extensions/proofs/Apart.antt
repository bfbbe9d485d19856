-- No two rows of a table hold of one word; and where an instruction comes from.
use Rattle.std.proofs.Common.{◌≡◌, ℕ, zero, suc, Bool, true, false, cond, eqb, not, ◌&&◌, ◌||◌, List, [], ◌∷◌, Option, Some, None, refl, sym, ap, subst, ◌∙◌, arith, slice_get}
use Rattle.std.specs.List.{list_all, list_any}
use Rattle.std.proofs.lemmas.Bool.Decides.{nat_tests}
use Rattle.elf_image.specs.declared.extensions.Extensions.{Extensions}
use Rattle.rv_decode.specs.Fields.{field}
use Rattle.rv_decode.specs.declared.instructions.Insn.{Insn}
use Rattle.rv_float.specs.Table.{is_among}
use Rattle.rv_extensions.specs.Rows.{Condition, bits, differ, Row, meets, holds, first_meaning}
use Rattle.rv_extensions.specs.Laws.{AtMostOneHolds}

-- ---- tests that are true or false

pub and_left : (a b : Bool) → (a && b) ≡ true → a ≡ true
and_left true b h = refl
and_left false b h = cc

pub and_right : (a b : Bool) → (a && b) ≡ true → b ≡ true
and_right true b h = h
and_right false b h = cc

pub and_false : (b : Bool) → (b && false) ≡ false
and_false true = refl
and_false false = refl

or_left : (a b : Bool) → (a || b) ≡ false → a ≡ false
or_left true b h = cc
or_left false b h = refl

or_right : (a b : Bool) → (a || b) ≡ false → b ≡ false
or_right true b h = cc
or_right false b h = h

not_true : (b : Bool) → not b ≡ true → b ≡ false
not_true true h = cc
not_true false h = refl

pub equal_true : (a b : ℕ) → (eqb a b) ≡ true → a ≡ b
equal_true a b is = grind (arith, nat_tests)

-- ---- conditions that no word meets together

-- whether no word can meet both
abbrev pub clash : Condition → Condition → Bool
clash (bits high low cs) (bits top end ds) =
    (eqb high top && eqb low end) && not (list_any (is_among ds) cs)
clash (bits high low cs) (differ a b c d) = false
clash (differ a b c d) other = false

none_step : (ds : List ℕ) (x v : ℕ) (rest b more : Bool) → eqb x v ≡ b → is_among ds v ≡ false → (rest ≡ true → is_among ds x ≡ false) → (b || rest) ≡ true → is_among ds x ≡ false
none_step ds x v rest true more is here later h = subst (λ y. is_among ds y ≡ false) (sym (equal_true x v is)) here
none_step ds x v rest false more is here later h = later h

-- what is among values that are none of the others is none of the others
shared : (x : ℕ) (ds cs : List ℕ) → list_any (is_among ds) cs ≡ false → is_among cs x ≡ true → is_among ds x ≡ false
shared x ds [] none is = cc
shared x ds (v ∷ vs) none is =
    none_step ds x v (is_among vs x) (eqb x v) true refl
    (or_left (is_among ds v) (list_any (is_among ds) vs) none)
    (shared x ds vs (or_right (is_among ds v) (list_any (is_among ds) vs) none)) is

field_at : (w a b c d : ℕ) → (eqb a c && eqb b d) ≡ true → field w a b ≡ field w c d
field_at w a b c d h =
    let p : a ≡ c = equal_true a c (and_left (eqb a c) (eqb b d) h) in
    let q : b ≡ d = equal_true b d (and_right (eqb a c) (eqb b d) h) in
    cc

pub clashes : (w : ℕ) (c d : Condition) → clash c d ≡ true → meets w c ≡ true → meets w d ≡ false
clashes w (bits high low cs) (bits top end ds) h m =
    let same = field_at w high low top end (and_left (eqb high top && eqb low end) (not (list_any (is_among ds) cs)) h) in
    let none = not_true (list_any (is_among ds) cs) (and_right (eqb high top && eqb low end) (not (list_any (is_among ds) cs)) h) in
    shared (field w top end) ds cs none (subst (λ x. is_among cs x ≡ true) same m)
clashes w (bits high low cs) (differ a b c d) h m = cc
clashes w (differ a b c d) other h m = cc

-- ---- lists of conditions

-- whether some condition of the first clashes with one of the second
abbrev pub exclude : List Condition → List Condition → Bool
exclude cs ds = list_any (λ c. list_any (clash c) ds) cs

any_step : (c f m all more : Bool) → (c ≡ true → m ≡ false) → (more ≡ true → all ≡ false) → (c || more) ≡ true → (m && all) ≡ false
any_step true f m all more here later h = ap (λ b. b && all) (here refl)
any_step false f m all more here later h = ap (λ b. m && b) (later h) ∙ and_false m

one_fails : (w : ℕ) (c : Condition) → meets w c ≡ true → (ds : List Condition) → list_any (clash c) ds ≡ true → list_all (meets w) ds ≡ false
one_fails w c m [] h = cc
one_fails w c m (d ∷ ds) h =
    any_step (clash c d) true (meets w d) (list_all (meets w) ds) (list_any (clash c) ds)
    (λ k. clashes w c d k m) (one_fails w c m ds) h

excluded_step : (here more all : Bool) → (here ≡ true → all ≡ false) → (more ≡ true → all ≡ false) → (here || more) ≡ true → all ≡ false
excluded_step true more all now later h = now refl
excluded_step false more all now later h = later h

pub excluded : (w : ℕ) (cs ds : List Condition) → exclude cs ds ≡ true → list_all (meets w) cs ≡ true → list_all (meets w) ds ≡ false
excluded w [] ds h m = cc
excluded w (c ∷ cs) ds h m =
    excluded_step (list_any (clash c) ds) (exclude cs ds) (list_all (meets w) ds)
    (one_fails w c (and_left (meets w c) (list_all (meets w) cs) m) ds)
    (λ more. excluded w cs ds more (and_right (meets w c) (list_all (meets w) cs) m)) h

-- ---- a table

abbrev apart : Row → Row → Bool
apart r s = exclude r.conditions s.conditions

abbrev pub all_apart : List Row → Bool
all_apart [] = true
all_apart (r ∷ rs) = list_all (apart r) rs && all_apart rs

pub passes_at : {A : Type 0} (p : A → Bool) (rs : List A) (i : ℕ) (r : A) → slice_get rs i ≡ Some r → list_all p rs ≡ true → p r ≡ true
passes_at p [] i r e h = cc
passes_at p (x ∷ xs) zero r e h =
    let same : x ≡ r = cc in
    ap p (sym same) ∙ and_left (p x) (list_all p xs) h
passes_at p (x ∷ xs) (suc i) r e h = passes_at p xs i r e (and_right (p x) (list_all p xs) h)

pub one_place : (rs : List Row) → all_apart rs ≡ true → AtMostOneHolds rs
one_place [] a w i j r s p q h k = cc
one_place (x ∷ xs) a w zero zero r s p q h k = refl
one_place (x ∷ xs) a w zero (suc j) r s p q h k =
    let same : x ≡ r = cc in
    let away = passes_at (apart x) xs j s q (and_left (list_all (apart x) xs) (all_apart xs) a) in
    let not_held = excluded w x.conditions s.conditions away (ap (λ y. holds y w) same ∙ h) in
    absurd (cc)
one_place (x ∷ xs) a w (suc i) zero r s p q h k =
    let same : x ≡ s = cc in
    let away = passes_at (apart x) xs i r p (and_left (list_all (apart x) xs) (all_apart xs) a) in
    let not_held = excluded w x.conditions r.conditions away (ap (λ y. holds y w) same ∙ k) in
    absurd (cc)
one_place (x ∷ xs) a w (suc i) (suc j) r s p q h k = ap suc (one_place xs (and_right (list_all (apart x) xs) (all_apart xs) a) w i j r s p q h k)

-- ---- the row that an instruction comes from

abbrev pub Holding : Extensions → List Row → ℕ → Type 0
Holding e rs w = (i : ℕ) × (r : Row) × (slice_get rs i ≡ Some r) × (holds r w ≡ true) × (r.named e ≡ true)

comes_step : (e : Extensions) (x : Row) (xs : List Row) (w : ℕ) (found : Insn) (b n : Bool) → holds x w ≡ b → x.named e ≡ n → (first_meaning e xs w ≡ Some found → Holding e xs w) → cond (b && n) (Some (x.meaning w)) (first_meaning e xs w) ≡ Some found → Holding e (x ∷ xs) w
comes_step e x xs w found true true h g later is = (zero, x, refl, h, g)
comes_step e x xs w found true false h g later is = let c = later is in (suc c.0, c.1, c.2, c.3, c.4)
comes_step e x xs w found false n h g later is = let c = later is in (suc c.0, c.1, c.2, c.3, c.4)

pub comes_from : (e : Extensions) (rs : List Row) (w : ℕ) (found : Insn) → first_meaning e rs w ≡ Some found → Holding e rs w
comes_from e [] w found is = absurd (cc)
comes_from e (x ∷ xs) w found is = comes_step e x xs w found (holds x w) (x.named e) refl refl (comes_from e xs w found) is

-- ---- a file that names nothing

unnamed_step : (b n : Bool) (found later : Option Insn) → n ≡ false → later ≡ None → cond (b && n) found later ≡ None
unnamed_step b n found later off none = rw (off, and_false b) none

pub no_meaning : (e : Extensions) (rs : List Row) → list_all (λ r. not (r.named e)) rs ≡ true → (w : ℕ) → first_meaning e rs w ≡ None
no_meaning e [] h w = refl
no_meaning e (x ∷ xs) h w =
    unnamed_step (holds x w) (x.named e) (Some (x.meaning w)) (first_meaning e xs w)
    (not_true (x.named e) (and_left (not (x.named e)) (list_all (λ r. not (r.named e)) xs) h))
    (no_meaning e xs (and_right (not (x.named e)) (list_all (λ r. not (r.named e)) xs) h) w)
