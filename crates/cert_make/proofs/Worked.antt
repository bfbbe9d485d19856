-- The canonical part of a program that is one return, by hand.
use Rattle.std.proofs.Common.{◌≡◌, ℕ, List, [], ◌∷◌, Option, Some, None, cond, eqb, sym, subst, arith, inl, inr}
use Rattle.std.specs.List.{Contains}
use Rattle.cert_text.specs.declared.lines.ReturnLine.{ReturnLine}
use Rattle.cert_text.specs.declared.lines.ReturnWhy.{ReturnWhy}
use Rattle.cert_text.specs.declared.lines.ReturnWhy.TheVariants.{Itself, To, CallBoth}
use Rattle.cert_text.specs.declared.lines.LeadLine.{LeadLine}
use Rattle.cert_text.specs.declared.lines.LeadWhy.{LeadWhy}
use Rattle.cert_text.specs.declared.lines.LeadWhy.TheVariants.{Seed, From, Join}
use Rattle.cert_text.specs.declared.certificate.Part.{Part}
use Rattle.cfg_model.specs.declared.flow.Flow.TheVariants.{Return, Call}
use Rattle.cfg_model.specs.Program.Instructions.{InstructionMap, flow_at}
use Rattle.cfg_model.specs.Program.Successors.{IsSuccessor, IsCall}
use Rattle.cfg_model.specs.Program.Reach.{Reached}
use Rattle.cfg_model.specs.Program.Status.{Returns}
use Rattle.cfg_model.specs.Graph.Leader.{StartsBlock, IsLeader}
use Rattle.cfg_model.proofs.Program.Listed.{none_in, head_in, in_cases}
use Rattle.cert_make.specs.Rank.{ReturnsBelow, LeadsBelow}
use Rattle.cert_make.specs.First.{ReturnWhyBefore, LeadWhyBefore}
use Rattle.cert_make.specs.Canonical.{IsReturnLine, IsLeadLine, ListsLines, ReturnsReached, IsCanonical}

-- a return at 0, and nothing else
abbrev program : InstructionMap
program a = cond (eqb a 0) (Some (record { bytes = 4; flow = Return; targets = [] })) None

abbrev seeds : List ℕ
seeds = 0 ∷ []

-- its lines
abbrev return_at_0 : ReturnLine
return_at_0 = record { at = 0; rank = 0; why = Itself }

abbrev lead_at_0 : LeadLine
lead_at_0 = record { at = 0; rank = 0; why = Seed }

abbrev part : Part
part = record { returns = return_at_0 ∷ []; leads = lead_at_0 ∷ [] }

no_call : (a target : ℕ) (fall : Option ℕ) → a ≡ 0 → IsCall program a target fall → ⊥
no_call a target fall at call =
    let flow : Some Return ≡ Some (Call target fall) = subst (λ (x : ℕ). flow_at program x ≡ Some (Call target fall)) at call in
    cc

reached_is : {a : ℕ} → Reached program seeds a → a ≡ 0
reached_is {a} (Reached.seed among) = elim (in_cases 0 [] a among) [ inl same ↦ sym same | inr none ↦ absurd (none_in a none) ]
reached_is {a = b} (Reached.onward {a = a} from way) =
    let none : Contains [] b = subst (λ (x : ℕ). IsSuccessor program x b) (reached_is from) way in
    absurd (none_in b none)
reached_is {a = b} (Reached.called {a = a} {fall = fall} from call) = absurd (no_call a b fall (reached_is from) call)
reached_is {a = b} (Reached.past_call {a = a} {target = target} from call back) = absurd (no_call a target (Some b) (reached_is from) call)

only_one : {X : Type 0} (P : X → Type 0) (x : X) → P x → (y : X) → Contains (x ∷ []) y → P y
only_one P x holds y among = elim (in_cases x [] y among) [ inl same ↦ subst P same holds | inr none ↦ absurd (none_in y none) ]

none_before_itself : (why : ReturnWhy) → ReturnWhyBefore why Itself → ⊥
none_before_itself Itself before = before
none_before_itself (To target) before = before
none_before_itself CallBoth before = before

none_before_seed : (why : LeadWhy) → LeadWhyBefore why Seed → ⊥
none_before_seed Seed before = before
none_before_seed (From lead) before = before
none_before_seed (Join first second) before = before

return_line_right : IsReturnLine program return_at_0
unfolding ReturnsBelow
return_line_right = record {
  rank = record { has = (Itself, tt); least = λ below. below };
  why = record { fits = tt; first = λ why fits. none_before_itself why };
}

lead_line_right : IsLeadLine program seeds lead_at_0
unfolding LeadsBelow
lead_line_right = record {
  rank = record { has = (Seed, head_in 0 []); least = λ below. below };
  why = record { fits = head_in 0 []; first = λ why fits. none_before_seed why };
}

leader_at_0 : IsLeader program seeds 0
leader_at_0 = record { reached = Reached.seed (head_in 0 []); starts = StartsBlock.seed (head_in 0 []) }

returns_at_0 : ReturnsReached program seeds 0
returns_at_0 = record { reached = Reached.seed (head_in 0 []); ends = tt; returns = Returns.by_itself tt }

one_line : {X : Type 0} (at : X → ℕ) (Among : ℕ → Type 0) (IsLine : X → Type 0) (x : X) → Among (at x) → IsLine x → ((a : ℕ) → Among a → a ≡ at x) → ListsLines at Among IsLine (x ∷ [])
one_line at Among IsLine x among right only = record {
  rises = λ k inside. absurd (omega arith);
  among = only_one (λ y. Among (at y)) x among;
  right = only_one IsLine x right;
  complete = λ a there. (x, head_in x [], sym (only a there));
}

one_return_part : IsCanonical program seeds part
one_return_part = record {
  returns = one_line (λ (l : ReturnLine). l.at) (ReturnsReached program seeds) (IsReturnLine program) return_at_0 returns_at_0 return_line_right (λ a there. reached_is there.reached);
  leads = one_line (λ (l : LeadLine). l.at) (IsLeader program seeds) (IsLeadLine program seeds) lead_at_0 leader_at_0 lead_line_right (λ a there. reached_is there.reached);
}
