-- Which blocks an entry stands at the start of, found by going along both in order.
use Rattle.std.proofs.Common.{◌≡◌, ◌↔◌, ℕ, Bool, false, ◌+◌, ◌<◌, ◌≤◌, List, length, get_or, IsTrue, sym, ◌∙◌, subst, inl, inr, arith}
use Rattle.std.specs.List.{AllPairs, Contains}
use Rattle.std.specs.List.Sorted.{IsStrictlyIncreasing}
use Rattle.std.proofs.lemmas.Bool.{cases_eq, cases_lt}
use Rattle.std.proofs.lemmas.List.{get_or_default}
use Rattle.std.proofs.lemmas.List.Elements.{Contains-get_or}
use Rattle.std.proofs.lemmas.List.Kept.{AllPairs-from_increasing}
use Rattle.cfg_model.specs.declared.graph.Block.{Block}
use Rattle.cfg_model.specs.Graph.Graph.{BlockBefore}
use Rattle.outline_funcs.specs.Inner.Blocks.{IsNumber}
use Rattle.outline_funcs.specs.Inner.Entries.{AreEntered}
use Rattle.outline_funcs.proofs.Numbers.{later_start}

-- the mark says whether an entry stands at the start of block j
abbrev pub MarksBlock : List Block → List ℕ → ℕ → Bool → Type 0
MarksBlock blocks entries j mark = (a : ℕ) → IsNumber blocks j a → IsTrue mark ↔ Contains entries a

module _ (entries : List ℕ) (up : IsStrictlyIncreasing entries) (i a : ℕ) (before : (k : ℕ) → k < i → get_or entries k 0 < a) (there : i < length entries → a ≤ get_or entries i 0) where
  -- an entry at a can only be the first that is not below it
  pub only_here : Contains entries a → (i < length entries) × (get_or entries i 0 ≡ a)
  only_here h =
      let j : ℕ = h.0 in
      let at : j < length entries = h.1 in
      let is : get_or entries j 0 ≡ a = get_or_default entries j 0 a at ∙ h.2 in
      elim (cases_lt j i) [
        | inl lt ↦ let less : get_or entries j 0 < a = before j lt in absurd (omega arith)
        | inr le ↦
            elim (cases_eq i j) [
              | inl e ↦ subst (λ (n : ℕ). (n < length entries) × (get_or entries n 0 ≡ a)) (sym e) (at, is)
              | inr ne ↦
                  let lt : i < j = omega arith in
                  let less : get_or entries i 0 < get_or entries j 0 = AllPairs-from_increasing entries up i j 0 lt at in
                  let more : a ≤ get_or entries i 0 = there (omega arith) in
                  absurd (omega arith)
            ]
      ]

listed_at : (entries : List ℕ) (i a : ℕ) → i < length entries → get_or entries i 0 ≡ a → Contains entries a
listed_at entries i a lt is = subst (Contains entries) is (Contains-get_or entries i 0 lt)

-- the mark of block j
module _ (blocks : List Block) (entries : List ℕ) (up : IsStrictlyIncreasing entries) (j next : ℕ) (d : Block)
    (before : (k : ℕ) → k < next → get_or entries k 0 < (get_or blocks j d).start) (there : next < length entries → (get_or blocks j d).start ≤ get_or entries next 0) where
  listed_first : (a : ℕ) → IsNumber blocks j a → Contains entries a → (next < length entries) × (get_or entries next 0 ≡ (get_or blocks j d).start)
  listed_first a is h = only_here entries up next (get_or blocks j d).start before there (subst (Contains entries) (sym (is.starts d)) h)

  pub mark_there : (mark : Bool) → next < length entries → (IsTrue mark ↔ (get_or entries next 0 ≡ (get_or blocks j d).start)) → MarksBlock blocks entries j mark
  mark_there mark lt means a is = (
    (λ t. listed_at entries next a lt (means.0 t ∙ is.starts d)),
    (λ h. means.1 (listed_first a is h).1),
  )

  pub mark_none : (mark : Bool) → ¬ IsTrue mark → length entries ≤ next → MarksBlock blocks entries j mark
  mark_none mark unset past a is = ((λ t. absurd (unset t)), (λ h. let lt = (listed_first a is h).0 in absurd (omega (arith, lt))))

-- the entries before a block lie before the blocks behind it too
pub still_before : (blocks : List Block) (entries : List ℕ) → AllPairs BlockBefore blocks → (i next : ℕ) (d : Block) → i < length blocks
    → ((k : ℕ) → k < next → get_or entries k 0 < (get_or blocks i d).start)
    → (k j : ℕ) (e : Block) → k < next → i + 1 ≤ j → j < length blocks → get_or entries k 0 < (get_or blocks j e).start
still_before blocks entries up i next d lt before k j e below past within =
    let low : get_or entries k 0 < (get_or blocks i d).start = before k below in
    let rise : (get_or blocks i d).start < (get_or blocks j e).start = later_start blocks i j d e up (omega arith) within in
    omega arith

pub all_entered : (blocks : List Block) (entries : List ℕ) (marks : List Bool) (i : ℕ) → length marks ≡ i → length blocks ≤ i → i ≤ length blocks
    → ((j : ℕ) (d : Bool) → j < i → MarksBlock blocks entries j (get_or marks j d)) → AreEntered blocks entries marks
all_entered blocks entries marks i long past within each = record {
  as_many = omega arith;
  exact = λ j a is. let lt : j < length blocks = is.within in each j false (omega arith) a is;
}
