-- The flows of the terminators of lines.
use Rattle.std.proofs.Common.{◌≡◌, ℕ, ◌+◌, ◌<◌, List, ◌∷◌, [], ◌++◌, Some, map, length, get_or, sym, subst, ap, ◌∙◌, arith, inl, inr}
use Rattle.std.proofs.lemmas.Bool.{cases_eq}
use Rattle.std.proofs.lemmas.List.{get_or_append_left, get_or_default, get_or_push, length-append}
use Rattle.cfg_model.specs.declared.flow.Flow.{Flow}
use Rattle.cfg_model.specs.Program.Instructions.{InstructionMap, flow_at}
use Rattle.cert_text.specs.declared.lines.ReturnLine.{ReturnLine}
use Rattle.cert_make.specs.Inner.Returns.{AreFlows}
use Rattle.cert_make.proofs.Rows.{at_of, at_index, same_length}

-- those of the first so many lines
pub record AreFlowsUpTo (code : InstructionMap) (lines : List ReturnLine) (count : ℕ) (flows : List Flow) : Type 0 where
  pub as_many : length flows ≡ count
  pub each : (i : ℕ) (l : ReturnLine) (f : Flow) → i < count → flow_at code (get_or lines i l).at ≡ Some (get_or flows i f)

pub one_flow : (code : InstructionMap) (lines : List ReturnLine) (i : ℕ) (old new : List Flow) (d : ReturnLine) (flow : Flow) → i < length lines → AreFlowsUpTo code lines i old → flow_at code (get_or lines i d).at ≡ Some flow → new ≡ old ++ flow ∷ [] → AreFlowsUpTo code lines (i + 1) new
one_flow code lines i old new d flow lt are is pushed = subst (AreFlowsUpTo code lines (i + 1)) (sym pushed) (record {
  as_many = length-append old (flow ∷ []) ∙ ap (λ n. n + 1) are.as_many;
  each = λ j l f below. elim (cases_eq j i) [
    | inl e ↦
        ap (λ n. flow_at code (get_or lines n l).at) e ∙ ap (λ (x : ReturnLine). flow_at code x.at) (get_or_default lines i l d lt) ∙ is
        ∙ ap Some (sym (get_or_push old flow f j (are.as_many ∙ sym e)))
    | inr ne ↦
        let low : j < i = omega arith in
        are.each j l f low ∙ ap Some (sym (get_or_append_left old (flow ∷ []) f j (omega (arith, low, are.as_many))))
  ];
})

pub all_flows : (code : InstructionMap) (lines : List ReturnLine) (n : ℕ) (flows : List Flow) → length lines ≡ n → AreFlowsUpTo code lines n flows → AreFlows code lines flows
all_flows code lines n flows many are = record { as_many = are.as_many ∙ sym many; each = λ i l f lt. are.each i l f (omega (arith, lt, many)) }

pub flows_same : (code : InstructionMap) (xs ys : List ReturnLine) (flows : List Flow) → map at_of ys ≡ map at_of xs → AreFlows code xs flows → AreFlows code ys flows
flows_same code xs ys flows same are = record {
  as_many = are.as_many ∙ sym (same_length xs ys same);
  each = λ i l f lt. ap (flow_at code) (sym (at_index xs ys same i l lt)) ∙ are.each i l f (omega (arith, lt, same_length xs ys same));
}
