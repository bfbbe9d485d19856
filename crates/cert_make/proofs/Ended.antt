-- The ends of the chains of leaders, one more at a time.
use Rattle.std.proofs.Common.{◌≡◌, ℕ, ◌+◌, ◌<◌, ◌≤◌, List, [], ◌∷◌, ◌++◌, length, get_or, refl, sym, ap, ◌∙◌, subst, inl, inr, arith}
use Rattle.std.specs.Prelude.{Contains}
use Rattle.std.proofs.lemmas.Bool.{cases_eq}
use Rattle.std.proofs.lemmas.List.{get_or_append_left, get_or_push, length-append}
use Rattle.std.proofs.lemmas.List.Elements.{Contains-push_cases}
use Rattle.cfg_model.specs.Program.Instructions.{InstructionMap}
use Rattle.cfg_model.specs.Program.Chain.{IsTerminatorOf}
use Rattle.cfg_model.proofs.Graphs.Lists.{Contains-none}
use Rattle.cert_make.specs.declared.chain_ends.Ends.{Ends}
use Rattle.cert_make.specs.Inner.Ends.{AreEnds, IsEnded, IsGiven}
use Rattle.cert_make.specs.Inner.Places.{IsAt, at}
use Rattle.cert_make.proofs.Placed.{listed_at}

-- ---- the place of a terminator

pub given_last : (k : ℕ) (terms : List ℕ) (i : ℕ) → i < length terms → get_or terms i 0 ≡ k → IsGiven k terms terms i
given_last k terms i lt is = record { kept = λ j a here. here; only = λ x listed. inl listed; here = record { within = lt; is = is } }

pub given_new : (k : ℕ) (old new : List ℕ) → new ≡ old ++ k ∷ [] → IsGiven k old new (length old)
given_new k old new is = subst (λ xs. IsGiven k old xs (length old)) (sym is) (record {
  kept = λ j a here. record { within = omega (arith, here.within, length-append old (k ∷ [])); is = get_or_append_left old (k ∷ []) 0 j here.within ∙ here.is };
  only = λ x listed. elim (Contains-push_cases old k x listed) [ inl here ↦ inl here | inr same ↦ inr (sym same) ];
  here = record { within = omega (arith, length-append old (k ∷ [])); is = get_or_push old k 0 (length old) refl };
})

-- ---- the ends of the first so many leaders

pub record AreEnded (map : InstructionMap) (leaders : List ℕ) (count : ℕ) (ends : Ends) : Type 0 where
  pub within : count ≤ length leaders
  pub as_many : length ends.of.items ≡ count
  pub right : (i a : ℕ) → i < count → IsAt leaders i a → (k : ℕ) × IsAt ends.terms.items (at ends.of.items i) k × IsTerminatorOf map a k
  pub only : (k : ℕ) → Contains ends.terms.items k → (a : ℕ) × Contains leaders a × IsTerminatorOf map a k

pub none_ended : (map : InstructionMap) (leaders : List ℕ) (ends : Ends) → ends.of.items ≡ [] → ends.terms.items ≡ [] → AreEnded map leaders 0 ends
none_ended map leaders ends of terms = record {
  within = omega arith;
  as_many = ap length of;
  right = λ i a lt. absurd (omega arith);
  only = λ k listed. absurd (Contains-none k (subst (λ xs. Contains xs k) terms listed));
}

pub one_ended : (map : InstructionMap) (leaders : List ℕ) (i a : ℕ) (old new : Ends) → IsAt leaders i a → AreEnded map leaders i old → IsEnded map a old new → AreEnded map leaders (i + 1) new
one_ended map leaders i a old new here are one = record {
  within = let lt = here.within in omega arith;
  as_many = ap length one.of ∙ length-append old.of.items (one.place ∷ []) ∙ ap (λ n. n + 1) are.as_many;
  right = λ j b lt there. elim (cases_eq j i) [
    | inl e ↦
        let same : b ≡ a = sym there.is ∙ ap (λ n. get_or leaders n 0) e ∙ here.is in
        let placed : get_or new.of.items j 0 ≡ one.place = ap (λ xs. get_or xs j 0) one.of ∙ get_or_push old.of.items one.place 0 j (are.as_many ∙ sym e) in
        (one.end, subst (λ n. IsAt new.terms.items n one.end) (sym placed) one.given.here, subst (λ x. IsTerminatorOf map x one.end) (sym same) one.ends)
    | inr ne ↦
        let low : j < i = omega arith in
        let before = are.right j b low there in
        let kept : get_or new.of.items j 0 ≡ get_or old.of.items j 0 = ap (λ xs. get_or xs j 0) one.of ∙ get_or_append_left old.of.items (one.place ∷ []) 0 j (omega (arith, low, are.as_many)) in
        (before.0, subst (λ n. IsAt new.terms.items n before.0) (sym kept) (one.given.kept (at old.of.items j) before.0 before.1), before.2)
  ];
  only = λ k listed. elim (one.given.only k listed) [
    | inl before ↦ are.only k before
    | inr same ↦ (a, listed_at leaders i a here, subst (IsTerminatorOf map a) (sym same) one.ends)
  ];
}

pub all_ended : (map : InstructionMap) (leaders : List ℕ) (n : ℕ) (ends : Ends) → length leaders ≤ n → AreEnded map leaders n ends → AreEnds map leaders ends
all_ended map leaders n ends long are = record {
  as_many = omega (arith, are.as_many, are.within, long);
  right = λ i a here. are.right i a (omega (arith, here.within, long)) here;
  only = are.only;
}
