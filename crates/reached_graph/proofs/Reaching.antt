-- What holds where control is sent, and where it goes straight on, holds of all that is reached.
use Rattle.std.proofs.Common.{◌≡◌, ◌≢◌, ℕ, List, [], Option, Some, None, refl, sym, ap, ◌∙◌, subst, inl, inr, arith}
use Rattle.std.specs.Prelude.{Contains, option_to_list}
use Rattle.std.proofs.lemmas.List.Elements.{Contains-append_cases}
use Rattle.std.proofs.lemmas.Option.{same_Some}
use Rattle.cfg_model.specs.declared.flow.Flow.{Flow}
use Rattle.cfg_model.specs.declared.flow.Flow.TheVariants.{Straight, Branch, Jump, Call, IndirectCall, Table, Return, Unknown, Stop}
use Rattle.cfg_model.specs.Program.Instructions.{InstructionMap, flow_at, length_at, targets_at}
use Rattle.cfg_model.specs.Program.Chain.{GoesOnTo}
use Rattle.cfg_model.specs.Program.Successors.{successors_of_flow}
use Rattle.cfg_model.specs.Program.Reach.{Reached}
use Rattle.cfg_model.specs.Graph.Leader.{StartsBlock}
use Rattle.cfg_model.proofs.Program.Listed.{none_in, in_cases, head_in, tail_in}
use Rattle.reached_terms.specs.Sent.{IsSent}

listed : (o : Option ℕ) (s : ℕ) → Contains (option_to_list o) s → o ≡ Some s
listed None s c = absurd (none_in s c)
listed (Some t) s c = elim (in_cases t [] s c) [ inl e ↦ ap Some e | inr none ↦ absurd (none_in s none) ]

module _ (map : InstructionMap) (seeds : List ℕ) (Holds : ℕ → Type 0) (at_sent : (a : ℕ) → IsSent map seeds a → Holds a) (onward : (a next : ℕ) → Holds a → GoesOnTo map a next → Holds next) where
  successor_holds : (k s : ℕ) → Reached map seeds k → Holds k → (o : Option Flow) → flow_at map k ≡ o → Contains (successors_of_flow (targets_at map k) o) s → Holds s
  successor_holds k s r holds None e c = absurd (none_in s c)
  successor_holds k s r holds (Some (Straight next)) e c = elim (in_cases next [] s c) [
    | inl same ↦ subst Holds same (onward k next holds e)
    | inr none ↦ absurd (none_in s none)
  ]
  successor_holds k s r holds (Some (Branch taken fall)) e c =
      elim (Contains-append_cases (option_to_list taken) (option_to_list fall) s c) [
        | inl in_taken ↦ at_sent s (IsSent.target r e in_taken)
        | inr in_fall ↦ at_sent s (IsSent.fall r e (listed fall s in_fall))
      ]
  successor_holds k s r holds (Some (Jump target)) e c = at_sent s (IsSent.target r e c)
  successor_holds k s r holds (Some (Call target fall)) e c = at_sent s (IsSent.target r e (tail_in target s (targets_at map k) c))
  successor_holds k s r holds (Some (IndirectCall fall)) e c =
      elim (Contains-append_cases (option_to_list fall) (targets_at map k) s c) [
        | inl falls ↦ at_sent s (IsSent.fall r e (listed fall s falls))
        | inr lands ↦ at_sent s (IsSent.target r e lands)
      ]
  successor_holds k s r holds (Some (Table entries full is_open)) e c = at_sent s (IsSent.target r e c)
  successor_holds k s r holds (Some Return) e c = absurd (none_in s c)
  successor_holds k s r holds (Some Unknown) e c = absurd (none_in s c)
  successor_holds k s r holds (Some Stop) e c = absurd (none_in s c)

  pub reached_holds : {a : ℕ} → Reached map seeds a → Holds a
  reached_holds (Reached.seed {a = a} c) = at_sent a (IsSent.seed c)
  reached_holds (Reached.onward {a = a} {b = b} r successor) = successor_holds a b r (reached_holds r) (flow_at map a) refl successor
  reached_holds (Reached.called {a = a} {target = target} r call) = at_sent target (IsSent.target r call (head_in target (targets_at map a)))
  reached_holds (Reached.past_call {a = a} {target = target} {fall = fall} r call back) = at_sent fall (IsSent.past_call r call back)

two_four : ◌≡◌ {A = Option ℕ} (Some 2) (Some 4) → ⊥
two_four e = absurd (omega (arith, same_Some 2 4 e))

-- where blocks start that has a reason to is sent to, or two streams join there
module _ (map : InstructionMap) (seeds : List ℕ) (IsStart : ℕ → Type 0) (sent : (a : ℕ) → IsSent map seeds a → IsStart a)
    (join : (a b next : ℕ) → Reached map seeds a → Reached map seeds b → a ≢ b → GoesOnTo map a next → GoesOnTo map b next → IsStart next) where
  pub starts_found : {a : ℕ} → StartsBlock map seeds a → IsStart a
  starts_found (StartsBlock.seed {a = a} c) = sent a (IsSent.seed c)
  starts_found (StartsBlock.target {a = a} r e c) = sent a (IsSent.target r e c)
  starts_found (StartsBlock.fall {a = a} r e c) = sent a (IsSent.fall r e c)
  starts_found (StartsBlock.past_call {a = a} r call back) = sent a (IsSent.past_call r call back)
  starts_found (StartsBlock.join {short = short} {long = long} {a = a} r goes two r_long goes_long four) =
      join short long a r r_long (λ e. two_four (sym two ∙ ap (length_at map) e ∙ four)) goes goes_long
