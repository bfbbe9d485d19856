-- Where chains end.
use Rattle.std.proofs.Common.{◌≡◌, ℕ, ◌+◌, ◌*◌, ◌<◌, ◌^◌, ◌⊎◌, true, List, Option, Some, None, is_some, refl, sym, ap, ◌∙◌, subst, arith, inl, inr}
use Rattle.std.specs.Prelude.{IfSome}
use Rattle.std.specs.Option.{option_map_or}
use Rattle.std.proofs.lemmas.Bool.{cases_Bool, cond-true, cond-false}
use Rattle.elf_image.specs.declared.section.Section.{Section}
use Rattle.elf_image.specs.Code.{is_code, code_section_of}
use Rattle.elf_image.specs.Faults.{IsImage}
use Rattle.elf_image.specs.Inner.Found.{IsFoundAt}
use Rattle.elf_image.proofs.Accepted.{code_section-found}
use Rattle.rv_flow.specs.Straight.{straight_length_at}
use Rattle.chain_index.specs.Chain.{next_behind, next_of, IsChainEnd, ChainEndIsUnique}
use Rattle.chain_index.specs.Inner.{Reaches, reach_over}

module _ (bytes : List ℕ) where
  -- what control goes on to is code
  next_code-by : (a next : ℕ) (n : Option ℕ) → next_behind bytes a n ≡ Some next → is_code bytes next ≡ true
  next_code-by a next None is = absurd (cc)
  next_code-by a next (Some n) is = elim (cases_Bool (is_code bytes (a + n))) [
    | inl code ↦
        let same : Some (a + n) ≡ Some next = sym (cond-true (is_code bytes (a + n)) (Some (a + n)) None code) ∙ is in
        let at : a + n ≡ next = cc in
        subst (λ b. is_code bytes b ≡ true) at code
    | inr out ↦
        let none : None ≡ Some next = sym (cond-false (is_code bytes (a + n)) (Some (a + n)) None out) ∙ is in
        absurd (cc)
  ]

  pub next_code : (a next : ℕ) → next_of bytes a ≡ Some next → is_code bytes next ≡ true
  next_code a next is = next_code-by a next (straight_length_at bytes a) is

  -- so is the end of a chain
  end_code-from : {a k : ℕ} → IsChainEnd bytes a k → is_code bytes a ≡ true → is_code bytes k ≡ true
  end_code-from (IsChainEnd.here none) code = code
  end_code-from (IsChainEnd.on {a = a} {next = next} goes rest) code = end_code-from rest (next_code a next goes)

  pub end_code : (a k : ℕ) → IsChainEnd bytes a k → is_code bytes a ≡ true → is_code bytes k ≡ true
  end_code a k end code = end_code-from end code

  -- a chain has one end
  one_end-at : {a b k l : ℕ} → IsChainEnd bytes a k → IsChainEnd bytes b l → a ≡ b → k ≡ l
  one_end-at (IsChainEnd.here none) (IsChainEnd.here none_too) same = same
  one_end-at (IsChainEnd.here {a = a} none) (IsChainEnd.on {next = next} goes rest) same =
      let both : None ≡ Some next = sym none ∙ ap (next_of bytes) same ∙ goes in absurd (cc)
  one_end-at (IsChainEnd.on {next = next} goes rest) (IsChainEnd.here none) same =
      let both : None ≡ Some next = sym none ∙ ap (next_of bytes) (sym same) ∙ goes in absurd (cc)
  one_end-at (IsChainEnd.on {next = next} goes rest) (IsChainEnd.on {next = other} goes_too rest_too) same =
      let both : Some next ≡ Some other = sym goes ∙ ap (next_of bytes) same ∙ goes_too in
      let onward : next ≡ other = cc in
      one_end-at rest rest_too onward

pub chain_end_is_unique : ChainEndIsUnique
chain_end_is_unique bytes a k l one other = one_end-at bytes one other refl

-- a code address of an accepted file lies in memory
pub code_below : (bytes : List ℕ) → IsImage bytes → (a : ℕ) → is_code bytes a ≡ true → a < 2 ^ 64
code_below bytes accepted a code = at (code_section_of bytes a) (code_section-found bytes accepted a) code
  where
    at : (o : Option Section) → IfSome o (IsFoundAt bytes a 2) → is_some o ≡ true → a < 2 ^ 64
    at None found there = absurd (cc)
    at (Some s) found there = omega (arith, found.end, found.in_memory)

-- ---- how far a chain reaches over its first instruction

module _ (bytes : List ℕ) (a : ℕ) where
  ends_here : next_of bytes a ≡ None → IsChainEnd bytes a (a + 2 * 0)
  ends_here none = subst (IsChainEnd bytes a) (omega arith) (IsChainEnd.here none)

  reach_behind : (n m : ℕ) (o : Option ℕ) → straight_length_at bytes a ≡ Some n → n ≡ 2 * m → Reaches bytes (a + n) o → IsChainEnd bytes a (a + 2 * option_map_or (λ reach. reach + m) o 0)
  reach_behind n m None is size out = ends_here (ap (next_behind bytes a) is ∙ cond-false (is_code bytes (a + n)) (Some (a + n)) None out)
  reach_behind n m (Some reach) is size there =
      let goes : next_of bytes a ≡ Some (a + n) = ap (next_behind bytes a) is ∙ cond-true (is_code bytes (a + n)) (Some (a + n)) None there.0 in
      let far : a + n + 2 * reach ≡ a + 2 * (reach + m) = omega arith in
      subst (IsChainEnd bytes a) far (IsChainEnd.on goes there.1)

  pub reach_is : (n near far : Option ℕ) → straight_length_at bytes a ≡ n → IfSome n (λ k. (k ≡ 2) ⊎ (k ≡ 4)) → (n ≡ Some 2 → Reaches bytes (a + 2) near) → (n ≡ Some 4 → Reaches bytes (a + 4) far) → IsChainEnd bytes a (a + 2 * reach_over n near far)
  reach_is None near far is sizes behind beyond = ends_here (ap (next_behind bytes a) is)
  reach_is (Some n) near far is (inl two) behind beyond =
      let at : straight_length_at bytes a ≡ Some 2 = is ∙ ap Some two in
      subst (λ k. IsChainEnd bytes a (a + 2 * reach_over (Some k) near far)) (sym two) (reach_behind 2 1 near at refl (behind (ap Some two)))
  reach_is (Some n) near far is (inr four) behind beyond =
      let at : straight_length_at bytes a ≡ Some 4 = is ∙ ap Some four in
      subst (λ k. IsChainEnd bytes a (a + 2 * reach_over (Some k) near far)) (sym four) (reach_behind 4 2 far at refl (beyond (ap Some four)))
