-- Sections without those that are empty.
use Rattle.std.proofs.Common.{◌≡◌, ℕ, ◌<◌, Bool, true, false, ◌&&◌, ◌||◌, List, [], ◌∷◌, ltb, refl, sym, ap, ap₂, ◌∙◌, arith, inl, inr, subst}
use Rattle.std.specs.List.{find, filter, list_any, All}
use Rattle.std.proofs.lemmas.Bool.{cases_Bool, ltb-true, and_parts}
use Rattle.std.proofs.lemmas.List.Elements.{All-cons}
use Rattle.std.proofs.lemmas.Bool.Decides.{nat_tests}
use Rattle.elf_image.specs.declared.section.Section.{Section}
use Rattle.elf_image.specs.Sections.{holds_bytes}
use Rattle.elf_image.specs.FaultTests.{any_pair, shares_address}
use Rattle.elf_image.specs.Inner.AddressIndex.{FindsSame}
use Rattle.elf_image.specs.Inner.Layout.{FindsAmong}
use Rattle.elf_image.proofs.Finds.{find-filter}

-- what has a byte is not empty
holds-filled : (a n : ℕ) → 0 < n → (s : Section) → (ltb 0 s.size && holds_bytes a n s) ≡ holds_bytes a n s
holds-filled a n some s = grind (arith, nat_tests)

and_assoc : (x y z : Bool) → ((x && y) && z) ≡ (x && (y && z))
and_assoc true y z = refl
and_assoc false y z = refl

-- a search among those that are not empty is a search among all
pub finds_among : (test : Section → Bool) (xs all filled : List Section) → filled ≡ filter (λ s. test s && ltb 0 s.size) all → FindsSame xs filled → FindsAmong test xs all
finds_among test xs all filled is same a n some =
    same a n some ∙ ap (find (holds_bytes a n)) is
    ∙ find-filter (λ s. test s && ltb 0 s.size) (holds_bytes a n) (λ s. test s && holds_bytes a n s)
    (λ s. and_assoc (test s) (ltb 0 s.size) (holds_bytes a n s) ∙ ap (λ b. test s && b) (holds-filled a n some s)) all

-- an empty section shares no address
empty-shares : (s t : Section) → ltb 0 s.size ≡ false → shares_address s t ≡ false
empty-shares s t empty = grind (arith, nat_tests)

shares-empty : (s t : Section) → ltb 0 t.size ≡ false → shares_address s t ≡ false
shares-empty s t empty = grind (arith, nat_tests)

any_shares-filled : (test : Section → Bool) (s : Section) (all : List Section) → list_any (shares_address s) (filter (λ t. test t && ltb 0 t.size) all) ≡ list_any (shares_address s) (filter test all)
any_shares-filled test s [] = refl
any_shares-filled test s (t ∷ ts) =
    let rest = any_shares-filled test s ts in
    elim (cases_Bool (test t)) [
      | inl passes ↦ elim (cases_Bool (ltb 0 t.size)) [
        | inl full ↦ rw (passes, full) (ap (λ b. shares_address s t || b) rest)
        | inr empty ↦ rw (passes, empty, shares-empty s t empty) rest
      ]
      | inr fails ↦ rw fails rest
    ]

empty-any_shares : (s : Section) (ts : List Section) → ltb 0 s.size ≡ false → list_any (shares_address s) ts ≡ false
empty-any_shares s [] empty = refl
empty-any_shares s (t ∷ ts) empty = rw (empty-shares s t empty) (empty-any_shares s ts empty)

-- whether two share an address does not depend on those that are empty
pub pairs-filled : (test : Section → Bool) (all : List Section) → any_pair shares_address (filter (λ s. test s && ltb 0 s.size) all) ≡ any_pair shares_address (filter test all)
pairs-filled test [] = refl
pairs-filled test (s ∷ ss) =
    let rest = pairs-filled test ss in
    elim (cases_Bool (test s)) [
      | inl passes ↦ elim (cases_Bool (ltb 0 s.size)) [
        | inl full ↦ rw (passes, full) (ap₂ (λ a b. a || b) (any_shares-filled test s ss) rest)
        | inr empty ↦ rw (passes, empty, empty-any_shares s (filter test ss) empty) rest
      ]
      | inr fails ↦ rw fails rest
    ]

-- what a filter keeps passes
pub filled-kept : (test : Section → Bool) (all filled : List Section) → filled ≡ filter (λ s. test s && ltb 0 s.size) all → All (λ s. 0 < s.size) filled
filled-kept test all filled is = subst (All (λ s. 0 < s.size)) (sym is) (kept test all)
  where
    kept : (test : Section → Bool) (ss : List Section) → All (λ s. 0 < s.size) (filter (λ s. test s && ltb 0 s.size) ss)
    kept test [] = λ k d below. absurd (omega arith)
    kept test (s ∷ ss) = elim (cases_Bool (test s && ltb 0 s.size)) [
      | inl passes ↦ rw passes (All-cons (λ s. 0 < s.size) s (filter (λ s. test s && ltb 0 s.size) ss) (ltb-true 0 s.size (and_parts (test s) (ltb 0 s.size) passes).1) (kept test ss))
      | inr fails ↦ rw fails (kept test ss)
    ]
