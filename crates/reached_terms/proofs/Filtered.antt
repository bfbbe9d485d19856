-- The marked ones of a list.
use Rattle.std.proofs.Common.{◌≡◌, ℕ, zero, suc, Bool, true, false, List, [], ◌∷◌, get_or, ap, ◌∙◌, subst, inl, inr, arith}
use Rattle.std.specs.Prelude.{◌↔◌}
use Rattle.std.specs.List.{Contains, filter}
use Rattle.std.specs.List.Sorted.{IsStrictlyIncreasing}
use Rattle.std.proofs.lemmas.List.Kept.{IsStrictlyIncreasing-filter}
use Rattle.std.proofs.lemmas.Bool.{cases_Bool}
use Rattle.std.proofs.lemmas.List.Elements.{All-contains, All-filter, Contains-get_or, filter_passes}
use Rattle.cfg_model.specs.Program.Instructions.{InstructionMap}
use Rattle.cfg_model.specs.Program.Chain.{IsTerminator}
use Rattle.cfg_model.specs.Program.Reach.{Reached}
use Rattle.cfg_model.specs.Program.Status.{Returns}
use Rattle.numbered.specs.Numbering.{IsMarked}
use Rattle.reached_terms.specs.Reached.{Reach, AreReachedTerms}

-- an item that passes the test is kept
pub kept_by : (test : ℕ → Bool) (xs : List ℕ) (x : ℕ) → Contains xs x → test x ≡ true → Contains (filter test xs) x
kept_by test [] x there passes = absurd (omega (arith, there.1))
kept_by test (y ∷ xs) x (zero, within, is) passes =
    let kept : test y ≡ true = ap test is ∙ passes in rw kept (0, omega arith, is)
kept_by test (y ∷ xs) x (suc k, within, is) passes =
    let rest = kept_by test xs x (k, omega (arith, within), is) passes in
    elim (cases_Bool (test y)) [
      | inl keeps ↦ rw keeps (suc rest.0, omega (arith, rest.1), rest.2)
      | inr drops ↦ rw drops rest
    ]

-- a kept item was there
pub kept_there : (test : ℕ → Bool) (xs : List ℕ) (x : ℕ) → Contains (filter test xs) x → Contains xs x
kept_there test xs x kept = All-contains (Contains xs) (filter test xs) x (All-filter test (Contains xs) xs (λ k d within. Contains-get_or xs k d within)) kept

-- and passes the test
pub kept_passes : (test : ℕ → Bool) (xs : List ℕ) (x : ℕ) → Contains (filter test xs) x → test x ≡ true
kept_passes test xs x kept = All-contains (λ y. test y ≡ true) (filter test xs) x (filter_passes test xs) kept

-- The marked ones among the addresses of what is reached are the terminators that return.
module _ (map : InstructionMap) (number : ℕ → ℕ) (seeds : List ℕ) (terms : Reach) (are : AreReachedTerms map number seeds terms)
    (reached : List ℕ) (exact : (a : ℕ) → Contains reached a ↔ IsMarked map number terms.reached a) where
  abbrev Test : ℕ → Bool
  Test a = get_or terms.returns (number a) false

  pub returning_exact : (k : ℕ) → Contains (filter Test reached) k ↔ IsTerminator map k × Reached map seeds k × Returns map k
  returning_exact k = (there, back)
    where
      there : Contains (filter Test reached) k → IsTerminator map k × Reached map seeds k × Returns map k
      there kept =
          let marked = (exact k).0 (kept_there Test reached k kept) in
          let ends : IsTerminator map k = are.ends k marked in
          let is_reached : Reached map seeds k = (are.reached k ends).0 marked.1 in
          (ends, is_reached, (are.returns k ends is_reached).0 (kept_passes Test reached k kept))

      back : IsTerminator map k × Reached map seeds k × Returns map k → Contains (filter Test reached) k
      back is =
          let marked : IsMarked map number terms.reached k = (are.known k is.1, (are.reached k is.0).1 is.1) in
          kept_by Test reached k ((exact k).1 marked) ((are.returns k is.0 is.1).1 is.2)

-- The same where lists and marks are known to be equal to these.
pub returning_listed : (map : InstructionMap) (number : ℕ → ℕ) (seeds : List ℕ) (terms : Reach) → AreReachedTerms map number seeds terms → (marks passed : List Bool) (reached found v : List ℕ) → marks ≡ terms.returns → passed ≡ terms.reached → found ≡ reached
    → ((a : ℕ) → Contains reached a ↔ IsMarked map number passed a) → v ≡ filter (λ a. get_or marks (number a) false) found
    → (k : ℕ) → Contains v k ↔ IsTerminator map k × Reached map seeds k × Returns map k
returning_listed map number seeds terms are marks passed reached found v same_marks same_passed same exact is =
    rw (is, same, same_marks) (returning_exact map number seeds terms are reached (subst (λ xs. (a : ℕ) → Contains reached a ↔ IsMarked map number xs a) same_passed exact))

pub returning_rises : (number : ℕ → ℕ) (marks : List Bool) (reached found v : List ℕ) → found ≡ reached → IsStrictlyIncreasing reached → v ≡ filter (λ a. get_or marks (number a) false) found → IsStrictlyIncreasing v
returning_rises number marks reached found v same rise is = rw (is, same) (IsStrictlyIncreasing-filter (λ a. get_or marks (number a) false) reached rise)
