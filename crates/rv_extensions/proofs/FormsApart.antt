-- No halfword is a compressed form of an extension and of RV64GC.
use Rattle.std.proofs.Common.{◌≡◌, ℕ, zero, suc, ◌+◌, ◌*◌, ◌/◌, ◌%◌, ◌^◌, Bool, true, false, not, ◌&&◌, ◌||◌, ◌==◌, List, [], ◌∷◌, Some, None, refl, sym, ap, ◌∙◌, arith, slice_get}
use Rattle.std.specs.List.{list_all}
use Rattle.std.proofs.lemmas.Bool.Decides.{nat_tests}
use Rattle.elf_image.specs.declared.extensions.Extensions.{Extensions}
use Rattle.rv_decode.specs.Fields.{field}
use Rattle.rv_float.specs.Table.{is_among}
use Rattle.rv_float.specs.Forms.{float_expansion, float_forms}
use Rattle.rvc_expand.specs.Table.{expansion, forms, quadrant_0, quadrant_1, quadrant_2}
use Rattle.rvc_expand.specs.Halfword.{lui_immediate, addi16sp_immediate}
use Rattle.rv_extensions.specs.Rows.{Row, meets, holds}
use Rattle.rv_extensions.specs.Forms.{extension_form, extension_forms, memory_forms, arithmetic_forms, may_be_forms, stack_forms, takes_doubles}
use Rattle.rv_extensions.specs.Laws.{FormsAreApart}
use Rattle.rv_extensions.proofs.Apart.{comes_from, and_left, and_right, equal_true}

abbrev IsNoForm : ℕ → Type 0
IsNoForm h = (expansion h ≡ None) × (float_expansion h ≡ None)

-- the same of what takes the place of a load or a store of a double
abbrev IsNoFormUnder : Extensions → ℕ → Type 0
IsNoFormUnder e h = (expansion h ≡ None) × (takes_doubles e ≡ false → float_expansion h ≡ None)

always : (e : Extensions) (h : ℕ) → IsNoForm h → IsNoFormUnder e h
always e h none = (none.0, λ keeps. none.1)

-- ---- halfwords by their fields

at_memory : (h : ℕ) → field h 1 0 ≡ 0 → field h 15 13 ≡ 4 → IsNoForm h
unfolding expansion forms quadrant_0 quadrant_1 quadrant_2 float_expansion float_forms
at_memory h q f = (rw (q, f) refl, rw (q, f) refl)

at_unary : (h : ℕ) → field h 1 0 ≡ 1 → field h 15 13 ≡ 4 → field h 12 12 ≡ 1 → field h 11 10 ≡ 3 → field h 6 5 ≡ 3 → IsNoForm h
unfolding expansion forms quadrant_0 quadrant_1 quadrant_2 float_expansion float_forms
at_unary h q f b c d = (rw (q, f, b, c, d) refl, rw q refl)

at_multiply : (h : ℕ) → field h 1 0 ≡ 1 → field h 15 13 ≡ 4 → field h 12 12 ≡ 1 → field h 11 10 ≡ 3 → field h 6 5 ≡ 2 → IsNoForm h
unfolding expansion forms quadrant_0 quadrant_1 quadrant_2 float_expansion float_forms
at_multiply h q f b c d = (rw (q, f, b, c, d) refl, rw q refl)

no_upper : (h : ℕ) → field h 12 12 ≡ 0 → field h 6 2 ≡ 0 → lui_immediate h ≡ 0
unfolding lui_immediate
no_upper h b z = rw (b, z) refl

no_stack : (h : ℕ) → field h 7 7 ≡ 1 → (field h 11 7 == 2) ≡ false
no_stack h one = grind (arith, nat_tests)

at_may_be : (h : ℕ) → field h 1 0 ≡ 1 → field h 15 13 ≡ 3 → field h 12 12 ≡ 0 → field h 7 7 ≡ 1 → field h 6 2 ≡ 0 → IsNoForm h
unfolding expansion forms quadrant_0 quadrant_1 quadrant_2 float_expansion float_forms
at_may_be h q f b one z = (rw (q, f, no_stack h one, no_upper h b z) refl, rw q refl)

-- ---- the rows

alone : (b : Bool) → (b || false) ≡ true → b ≡ true
alone true is = refl
alone false is = is

one : (x v : ℕ) (rest : Bool) → (is_among (v ∷ []) x && rest) ≡ true → x ≡ v
one x v rest is = equal_true x v (alone (x == v) (and_left (is_among (v ∷ []) x) rest is))

more : (x v : ℕ) (rest : Bool) → (is_among (v ∷ []) x && rest) ≡ true → rest ≡ true
more x v rest is = and_right (is_among (v ∷ []) x) rest is

memory : (h : ℕ) (rest : Bool) → (is_among (0 ∷ []) (field h 1 0) && (is_among (4 ∷ []) (field h 15 13) && rest)) ≡ true → IsNoForm h
memory h rest is = at_memory h (one (field h 1 0) 0 _ is) (one (field h 15 13) 4 rest (more (field h 1 0) 0 _ is))

abbrev arithmetic_test : ℕ → Bool → Bool
arithmetic_test h rest = is_among (1 ∷ []) (field h 1 0) && (is_among (4 ∷ []) (field h 15 13) && (is_among (1 ∷ []) (field h 12 12) && (is_among (3 ∷ []) (field h 11 10) && rest)))

unary : (h : ℕ) (rest : Bool) → arithmetic_test h (is_among (3 ∷ []) (field h 6 5) && rest) ≡ true → IsNoForm h
unary h rest is =
    let a = more (field h 1 0) 1 _ is in
    let b = more (field h 15 13) 4 _ a in
    let c = more (field h 12 12) 1 _ b in
    let d = more (field h 11 10) 3 _ c in
    at_unary h (one (field h 1 0) 1 _ is) (one (field h 15 13) 4 _ a) (one (field h 12 12) 1 _ b) (one (field h 11 10) 3 _ c) (one (field h 6 5) 3 rest d)

multiply : (h : ℕ) → arithmetic_test h (is_among (2 ∷ []) (field h 6 5) && true) ≡ true → IsNoForm h
multiply h is =
    let a = more (field h 1 0) 1 _ is in
    let b = more (field h 15 13) 4 _ a in
    let c = more (field h 12 12) 1 _ b in
    let d = more (field h 11 10) 3 _ c in
    at_multiply h (one (field h 1 0) 1 _ is) (one (field h 15 13) 4 _ a) (one (field h 12 12) 1 _ b) (one (field h 11 10) 3 _ c) (one (field h 6 5) 2 true d)

may_be : (h : ℕ) → (is_among (1 ∷ []) (field h 1 0) && (is_among (3 ∷ []) (field h 15 13) && (is_among (0 ∷ []) (field h 12 12) && (is_among (0 ∷ []) (field h 11 11) && (is_among (1 ∷ []) (field h 7 7) && (is_among (0 ∷ []) (field h 6 2) && true)))))) ≡ true → IsNoForm h
may_be h is =
    let a = more (field h 1 0) 1 _ is in
    let b = more (field h 15 13) 3 _ a in
    let c = more (field h 12 12) 0 _ b in
    let d = more (field h 11 11) 0 _ c in
    let f = more (field h 7 7) 1 _ d in
    at_may_be h (one (field h 1 0) 1 _ is) (one (field h 15 13) 3 _ a) (one (field h 12 12) 0 _ b) (one (field h 7 7) 1 _ d) (one (field h 6 2) 0 true f)

at_stack : (h : ℕ) → field h 1 0 ≡ 2 → field h 15 13 ≡ 5 → expansion h ≡ None
unfolding expansion forms quadrant_0 quadrant_1 quadrant_2
at_stack h q f = rw (q, f) refl

taken : (a b c : Bool) → (a || (b || c)) ≡ false → (b ≡ false) × (c ≡ false)
taken false false false is = (refl, refl)
taken false false true is = cc
taken false true c is = cc
taken true b c is = cc

pushes : (e : Extensions) (h : ℕ) (rest : Bool) → e.zcmp ≡ true → (is_among (2 ∷ []) (field h 1 0) && (is_among (5 ∷ []) (field h 15 13) && rest)) ≡ true → IsNoFormUnder e h
pushes e h rest named is = (
  at_stack h (one (field h 1 0) 2 _ is) (one (field h 15 13) 5 rest (more (field h 1 0) 2 _ is)),
  λ keeps. let off = (taken e.zfinx e.zcmp e.zcmt keeps).0 in absurd (cc),
)

jumps : (e : Extensions) (h : ℕ) (rest : Bool) → e.zcmt ≡ true → (is_among (2 ∷ []) (field h 1 0) && (is_among (5 ∷ []) (field h 15 13) && rest)) ≡ true → IsNoFormUnder e h
jumps e h rest named is = (
  at_stack h (one (field h 1 0) 2 _ is) (one (field h 15 13) 5 rest (more (field h 1 0) 2 _ is)),
  λ keeps. let off = (taken e.zfinx e.zcmp e.zcmt keeps).1 in absurd (cc),
)

abbrev EachIsNoForm : Extensions → List Row → ℕ → Type 0
EachIsNoForm e [] h = Unit {0}
EachIsNoForm e (r ∷ rs) h = (holds r h ≡ true → r.named e ≡ true → IsNoFormUnder e h) × EachIsNoForm e rs h

each : (e : Extensions) (h : ℕ) → EachIsNoForm e extension_forms h
unfolding extension_forms memory_forms arithmetic_forms may_be_forms stack_forms
each e h = (
  λ is n. always e h (memory h _ is),
  (
    λ is n. always e h (memory h _ is),
    (
      λ is n. always e h (memory h _ is),
      (
        λ is n. always e h (memory h _ is),
        (
          λ is n. always e h (memory h _ is),
          (
            λ is n. always e h (unary h _ is),
            (
              λ is n. always e h (unary h _ is),
              (
                λ is n. always e h (unary h _ is),
                (
                  λ is n. always e h (unary h _ is),
                  (
                    λ is n. always e h (unary h _ is),
                    (
                      λ is n. always e h (unary h _ is),
                      (
                        λ is n. always e h (multiply h is),
                        (
                          λ is n. always e h (may_be h is),
                          (
                            λ is n. pushes e h _ n is,
                            (
                              λ is n. pushes e h _ n is,
                              (
                                λ is n. pushes e h _ n is,
                                (
                                  λ is n. pushes e h _ n is,
                                  (
                                    λ is n. pushes e h _ n is,
                                    (
                                      λ is n. pushes e h _ n is,
                                      (λ is n. jumps e h _ n is, (λ is n. jumps e h _ n is, tt)),
                                    ),
                                  ),
                                ),
                              ),
                            ),
                          ),
                        ),
                      ),
                    ),
                  ),
                ),
              ),
            ),
          ),
        ),
      ),
    ),
  ),
)

at : (e : Extensions) (rs : List Row) (h i : ℕ) (r : Row) → EachIsNoForm e rs h → slice_get rs i ≡ Some r → holds r h ≡ true → r.named e ≡ true → IsNoFormUnder e h
at e [] h i r none is held named = absurd (cc)
at e (x ∷ xs) h zero r none is held named =
    let same : x ≡ r = cc in
    none.0 (ap (λ y. holds y h) same ∙ held) (ap (λ (y : Row). y.named e) same ∙ named)
at e (x ∷ xs) h (suc i) r none is held named = at e xs h i r none.1 is held named

pub forms_are_apart : FormsAreApart
unfolding extension_form
forms_are_apart e half found is =
    let from = comes_from e extension_forms half found is in
    at e extension_forms half from.0 from.1 (each e half) from.2 from.3 from.4
