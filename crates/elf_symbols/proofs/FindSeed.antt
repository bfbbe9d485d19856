-- The name that is found at an address.
use Rattle.std.proofs.Common.{◌≡◌, ℕ, ◌<◌, ◌≤◌, eqb, List, [], ◌∷◌, ◌++◌, length, get_or, None, Ok, Err, nat_cmp, refl, sym, ap, ◌∙◌, subst, arith, inl, inr}
use Rattle.std.specs.List.{Contains}
use Rattle.std.specs.List.Sorted.{IsStrictlyIncreasing, IsBinarySearchResult}
use Rattle.std.specs.Option.{option_and_then}
use Rattle.std.proofs.lemmas.Bool.{cases_eq, cases_lt, eq-eqb, ne_eqb}
use Rattle.std.proofs.lemmas.List.{get_or-map, length-map}
use Rattle.std.proofs.lemmas.List.Folds.{list_any_none}
use Rattle.std.proofs.lemmas.List.Sorted.{searched}
use Rattle.std.proofs.lemmas.List.Kept.{AllPairs-from_increasing}
use Rattle.elf_image.proofs.Finds.{find-at, find-none}
use Rattle.elf_symbols.specs.declared.seed.Seed.{Seed}
use Rattle.elf_symbols.specs.Seeds.{addresses_of, name_in}
use Rattle.elf_symbols.proofs.Members.{Contains-later}

-- no seed stands at the address
pub name_in-none : (ms : List Seed) (a : ℕ) → (Contains (addresses_of ms) a → ⊥) → name_in ms a ≡ None
name_in-none [] a none = refl
name_in-none (m ∷ ms) a none =
    rw (ne_eqb m.address a (λ e. none (0, omega arith, e))) (name_in-none ms a (λ there. none (Contains-later m.address (addresses_of ms) a there)))

-- one more seed at another address, and at the address
pub name_in-push_other : (ms : List Seed) (x : Seed) (a : ℕ) → (x.address ≡ a → ⊥) → name_in (ms ++ x ∷ []) a ≡ name_in ms a
name_in-push_other [] x a other = rw (ne_eqb x.address a other) refl
name_in-push_other (m ∷ ms) x a other = elim (cases_eq m.address a) [
  | inl here ↦ rw (eq-eqb m.address a here) refl
  | inr not_here ↦ rw (ne_eqb m.address a not_here) (name_in-push_other ms x a other)
]

pub name_in-push_here : (ms : List Seed) (x : Seed) (a : ℕ) → (Contains (addresses_of ms) a → ⊥) → x.address ≡ a → name_in (ms ++ x ∷ []) a ≡ x.name
name_in-push_here [] x a none here = rw (eq-eqb x.address a here) refl
name_in-push_here (m ∷ ms) x a none here =
    rw (ne_eqb m.address a (λ e. none (0, omega arith, e)))
    (name_in-push_here ms x a (λ there. none (Contains-later m.address (addresses_of ms) a there)) here)

-- what a search of rising addresses finds
address_at : (ms : List Seed) (k : ℕ) (d : Seed) → k < length ms → (get_or ms k d).address ≡ get_or (addresses_of ms) k 0
address_at ms k d within = sym (get_or-map (λ (s : Seed). s.address) ms k d 0 within)

pub name_in-at : (ms : List Seed) (i a : ℕ) (d : Seed) → IsStrictlyIncreasing (addresses_of ms) → i < length ms → get_or (addresses_of ms) i 0 ≡ a → name_in ms a ≡ (get_or ms i d).name
name_in-at ms i a d up within here =
    let long = length-map ms (λ (s : Seed). s.address) in
    ap (option_and_then (λ (s : Seed). s.name))
    (find-at (λ (s : Seed). eqb s.address a) ms i d within
    (λ k below. ne_eqb (get_or ms k d).address a (λ e.
    let less = AllPairs-from_increasing (addresses_of ms) up k i 0 below (omega arith) in
    let at_k = address_at ms k d (omega arith) in omega arith))
    (eq-eqb (get_or ms i d).address a (address_at ms i d within ∙ here)))

pub name_in-absent : (ms : List Seed) (i a : ℕ) → ((k : ℕ) → k < i → get_or (addresses_of ms) k 0 < a) → ((k : ℕ) → i ≤ k → k < length (addresses_of ms) → a < get_or (addresses_of ms) k 0) → name_in ms a ≡ None
name_in-absent ms i a below above =
    let long = length-map ms (λ (s : Seed). s.address) in
    ap (option_and_then (λ (s : Seed). s.name))
    (find-none (λ (s : Seed). eqb s.address a) ms (list_any_none (λ (s : Seed). eqb s.address a) ms
    (λ k d within. ne_eqb (get_or ms k d).address a (λ e.
    let at_k = address_at ms k d within in
    elim (cases_lt k i) [
      | inl less ↦ let l = below k less in omega arith
      | inr more ↦ let m = above k more (omega arith) in omega arith
    ]))))

-- what `binary_search` says of them
not_falling : (xs : List ℕ) → IsStrictlyIncreasing xs → (i j : ℕ) → i ≤ j → j < length xs → get_or xs i 0 ≤ get_or xs j 0
not_falling xs up i j order within = elim (cases_eq i j) [
  | inl same ↦ let e = ap (λ k. get_or xs k 0) same in omega arith
  | inr other ↦ let less = AllPairs-from_increasing xs up i j 0 (omega arith) within in omega arith
]

pub name-found : (ms : List Seed) (bs xs : List ℕ) → bs ≡ xs → xs ≡ addresses_of ms → IsStrictlyIncreasing xs → (i a : ℕ) → IsBinarySearchResult (λ y. nat_cmp y a) bs (Ok i) → (x : Seed) → x ≡ get_or ms i x → x.name ≡ name_in ms a
name-found ms bs xs same is up i a result x read =
    let all = same ∙ is in
    let up' = subst IsStrictlyIncreasing is up in
    let result' = subst (λ zs. IsBinarySearchResult (λ y. nat_cmp y a) zs (Ok i)) all result in
    let it = searched (addresses_of ms) a (Ok i) result' (not_falling (addresses_of ms) up') in
    let within : i < length ms = omega (arith, it.0, length-map ms (λ (s : Seed). s.address)) in
    ap (λ (s : Seed). s.name) read ∙ sym (name_in-at ms i a x up' within it.1)

pub name-absent : (ms : List Seed) (bs xs : List ℕ) → bs ≡ xs → xs ≡ addresses_of ms → IsStrictlyIncreasing xs → (i a : ℕ) → IsBinarySearchResult (λ y. nat_cmp y a) bs (Err i) → None ≡ name_in ms a
name-absent ms bs xs same is up i a result =
    let result' = subst (λ zs. IsBinarySearchResult (λ y. nat_cmp y a) zs (Err i)) (same ∙ is) result in
    let it = searched (addresses_of ms) a (Err i) result' (not_falling (addresses_of ms) (subst IsStrictlyIncreasing is up)) in
    sym (name_in-absent ms i a it.1 it.2)
