-- The lines of returns by the numbers of their addresses, as far as they are kept.
use Rattle.std.proofs.Common.{◌≡◌, ℕ, ◌+◌, ◌<◌, List, length, get_or, set, sym, ap, ◌∙◌, subst, inl, inr, arith}
use Rattle.std.specs.Prelude.{All, Contains, IsSome}
use Rattle.std.proofs.lemmas.Bool.{cases_eq}
use Rattle.std.proofs.lemmas.List.{get_or_default, get_or-set_same, get_or-set_other, length-set}
use Rattle.cfg_model.specs.Program.Instructions.{InstructionMap}
use Rattle.numbered.specs.Numbering.{IsNumbering}
use Rattle.cert_text.specs.declared.lines.ReturnLine.{ReturnLine}
use Rattle.cert_ends.specs.declared.numbered_returns.NumberedReturns.{NumberedReturns}
use Rattle.cert_ends.specs.Places.{AreNumbered, ReturnsRise}
use Rattle.cert_ends.proofs.Placed.{no_return}

module _ (map : InstructionMap) (number : ℕ → ℕ) (lines : List ReturnLine) where
  -- the first so many lines are found by the numbers of their addresses, and nothing else is
  pub record AreKept (count : ℕ) (places : List ℕ) : Type 0 where
    pub numbering : IsNumbering map number (length places)
    pub whole : (j : ℕ) (d : ReturnLine) → j < count → get_or places (number (get_or lines j d).at) 0 ≡ j + 1
    pub right : (a j : ℕ) → IsSome (map a) → get_or places (number a) 0 ≡ j + 1 → (j < count) × ((d : ReturnLine) → (get_or lines j d).at ≡ a)

  pub none_kept : (places : List ℕ) → IsNumbering map number (length places) → ((n : ℕ) → get_or places n 0 ≡ 0) → AreKept 0 places
  none_kept places numbering zeros = record {
    numbering = numbering;
    whole = λ j d lt. absurd (omega arith);
    right = λ a j known is. absurd (omega (arith, zeros (number a), is));
  }

  module _ (rise : ReturnsRise lines) (stand : All (λ (l : ReturnLine). IsSome (map l.at)) lines) where
    pub more_kept : (i : ℕ) (old : List ℕ) (s : ℕ) → i < length lines → ((d : ReturnLine) → (get_or lines i d).at ≡ s) → AreKept i old → AreKept (i + 1) (set old (number s) (i + 1))
    more_kept i old s lt is kept = record {
      numbering = subst (IsNumbering map number) (sym (length-set old (number s) (i + 1))) kept.numbering;
      whole = λ j d below. elim (cases_eq j i) [
        | inl e ↦
            let here : (get_or lines j d).at ≡ s = ap (λ k. (get_or lines k d).at) e ∙ is d in
            ap (λ a. get_or new (number a) 0) here ∙ there ∙ ap (λ k. k + 1) (sym e)
        | inr ne ↦
            let low : j < i = omega arith in
            let less : (get_or lines j d).at < (get_or lines i d).at = rise j i d low lt in
            let known : IsSome (map (get_or lines j d).at) = stand j d (omega arith) in
            let at : (get_or lines i d).at ≡ s = is d in
            other (number (get_or lines j d).at) (λ same. let equal = kept.numbering.apart (get_or lines j d).at s known stands same in omega arith)
            ∙ kept.whole j d low
      ];
      right = λ a j known found. elim (cases_eq (number a) (number s)) [
        | inl e ↦
            let same : a ≡ s = kept.numbering.apart a s known stands e in
            let place : j ≡ i = omega (arith, sym found ∙ ap (λ n. get_or new n 0) e ∙ there) in
            (omega arith, λ d. ap (λ k. (get_or lines k d).at) place ∙ is d ∙ sym same)
        | inr ne ↦
            let before = kept.right a j known (sym (other (number a) ne) ∙ found) in
            (omega (arith, before.0), before.1)
      ];
    }
      where
        new : List ℕ
        new = set old (number s) (i + 1)

        stands : IsSome (map s)
        stands = subst (λ a. IsSome (map a)) (is no_return) (stand i no_return lt)

        there : get_or new (number s) 0 ≡ i + 1
        there = get_or-set_same old (number s) (i + 1) 0 (kept.numbering.below s stands)

        other : (n : ℕ) → (n ≡ number s → ⊥) → get_or new n 0 ≡ get_or old n 0
        other n ne = get_or-set_other old (number s) n (i + 1) 0 ne

-- all lines are kept
pub numbered : (map : InstructionMap) (number : ℕ → ℕ) (returns : NumberedReturns) (n : ℕ) → ReturnsRise returns.lines.now → length returns.lines.now ≡ n → AreKept map number returns.lines.now n returns.places.items → AreNumbered map number returns
numbered map number returns n rise many kept = record {
  rise = rise;
  numbering = kept.numbering;
  none = λ a known is has.
      let at : (get_or returns.lines.now has.listed.0 no_return).at ≡ a = ap (λ (l : ReturnLine). l.at) (get_or_default returns.lines.now has.listed.0 no_return has.line has.listed.1 ∙ has.listed.2) ∙ has.address in
      let found = kept.whole has.listed.0 no_return (omega (arith, has.listed.1, many)) in
      absurd (omega (arith, found, ap (λ x. get_or returns.places.items (number x) 0) at, is));
  some = λ a i known is. let found = kept.right a i known is in (omega (arith, found.0, many), found.1);
}

-- the line at a place
pub line_found : (lines : List ReturnLine) (i k : ℕ) (d : ReturnLine) → i < length lines → ((e : ReturnLine) → (get_or lines i e).at ≡ k) → Contains lines (get_or lines i d) × ((get_or lines i d).at ≡ k)
line_found lines i k d lt is = ((i, lt, get_or_default lines i (get_or lines i d) d lt), is d)
