-- A terminator whose flow is followed.
use Rattle.std.proofs.Common.{◌≡◌, ℕ, Bool, [], ◌∷◌, ◌++◌, Option, Some, None, refl, sym, ◌∙◌, subst, inl, inr, ⊎_elim}
use Rattle.std.specs.Prelude.{IfSome, All, Contains, option_to_list}
use Rattle.cfg_model.specs.declared.flow.Flow.{Flow}
use Rattle.cfg_model.specs.declared.flow.Flow.TheVariants.{Branch, Jump, Call, IndirectCall, Table, Return, Unknown, Stop}
use Rattle.cfg_model.specs.Program.Instructions.{InstructionMap, flow_at, targets_at}
use Rattle.cfg_model.specs.Program.Successors.{LeavesFunction, successors_by}
use Rattle.cfg_model.proofs.Program.Known.{successor_to_flow}
use Rattle.cfg_model.proofs.Program.Listed.{none_in, head_in, tail_in, in_cases}
use Rattle.std.proofs.lemmas.Option.{none-some}
use Rattle.std.proofs.lemmas.List.Elements.{Contains-append_cases}
use Rattle.reached_terms.specs.declared.marks.Marks.{Marks}
use Rattle.reached_terms.specs.Inner.Marks.{IsOn, IsLed, IsCalled, IsVisited, IsCutOff}

target_is : {t u : ℕ} {f g : Option ℕ} → Some (Call t f) ≡ Some (Call u g) → t ≡ u
target_is is = cc

fall_is : {t u : ℕ} {f g : Option ℕ} → Some (Call t f) ≡ Some (Call u g) → f ≡ g
fall_is is = cc

-- one address, and those of a branch
one_of : (P : ℕ → Type 0) (a : ℕ) → P a → (b : ℕ) → Contains (a ∷ []) b → P b
one_of P a here b there = elim (in_cases a [] b there) [
  | inl same ↦ subst P same here
  | inr none ↦ absurd (none_in b none)
]

any_of : (P : ℕ → Type 0) (o : Option ℕ) → IfSome o P → (b : ℕ) → Contains (option_to_list o) b → P b
any_of P None none b there = absurd (none_in b there)
any_of P (Some a) here b there = one_of P a here b there

both_of : (P : ℕ → Type 0) (o p : Option ℕ) → IfSome o P → IfSome p P → (b : ℕ) → Contains (option_to_list o ++ option_to_list p) b → P b
both_of P None p first second b there = any_of P p second b there
both_of P (Some a) p first second b there = elim (in_cases a (option_to_list p) b there) [
  | inl same ↦ subst P same first
  | inr rest ↦ any_of P p second b rest
]

cut_off : (o p : Option ℕ) → LeavesFunction (Some (Branch o p)) → IsCutOff o p
cut_off None None leaves = tt
cut_off None (Some f) leaves = tt
cut_off (Some t) None leaves = tt
cut_off (Some t) (Some f) leaves = leaves

-- and back
pub leaves_so : (o p : Option ℕ) → IsCutOff o p → LeavesFunction (Some (Branch o p))
leaves_so None None cut = tt
leaves_so None (Some f) cut = tt
leaves_so (Some t) None cut = tt
leaves_so (Some t) (Some f) cut = cut

module _ (map : InstructionMap) (number : ℕ → ℕ) (m : Marks) (n k : ℕ) (is : n ≡ number k) where
  abbrev Follows : Flow → Type 0
  Follows flow = (b : ℕ) → Contains (successors_by (targets_at map k) flow) b → IsLed map number m n b

  visited_from : (flow : Flow) → flow_at map k ≡ Some flow → Follows flow → (LeavesFunction (Some flow) → IsOn m.returns.items n)
      → ((target : ℕ) (fall : Option ℕ) → Some flow ≡ Some (Call target fall) → IsCalled map number m n target fall) → IsVisited map number m k
  visited_from flow at onward itself called = record {
    onward = λ b next. subst (λ p. IsLed map number m p b) is (onward b (successor_to_flow map k flow at b next));
    itself = λ leaves. subst (λ p. IsOn m.returns.items p) is (itself (subst LeavesFunction at leaves));
    called = λ target fall call. subst (λ p. IsCalled map number m p target fall) is (called target fall (sym at ∙ call));
  }

  pub branch_visited : (taken fall : Option ℕ) → flow_at map k ≡ Some (Branch taken fall) → IfSome taken (IsLed map number m n) → IfSome fall (IsLed map number m n) → (IsCutOff taken fall → IsOn m.returns.items n) → IsVisited map number m k
  branch_visited taken fall at first second itself =
      visited_from (Branch taken fall) at (λ b there. both_of (IsLed map number m n) taken fall first second b there) (λ leaves. itself (cut_off taken fall leaves)) (λ t f call. absurd (cc))

  pub jump_visited : (target : ℕ) → flow_at map k ≡ Some (Jump target) → IsLed map number m n target → IsVisited map number m k
  jump_visited target at led = visited_from (Jump target) at (λ b there. one_of (IsLed map number m n) target led b there) (λ leaves. absurd leaves) (λ t f call. absurd (cc))

  -- all kept targets, one by one
  kept_led : All (IsLed map number m n) (targets_at map k) → (b : ℕ) → Contains (targets_at map k) b → IsLed map number m n b
  kept_led led b there = subst (IsLed map number m n) there.2 (led there.0 b there.1)

  pub call_visited : (target : ℕ) (fall : Option ℕ) → flow_at map k ≡ Some (Call target fall) → IsCalled map number m n target fall → All (IsLed map number m n) (targets_at map k) → IsVisited map number m k
  call_visited target fall at called led =
      visited_from (Call target fall) at (kept_led led) (λ leaves. absurd leaves)
      (λ t f call. subst (λ u. IsCalled map number m n u f) (target_is call) (subst (λ g. IsCalled map number m n target g) (fall_is call) called))

  pub indirect_visited : (fall : Option ℕ) → flow_at map k ≡ Some (IndirectCall fall) → IfSome fall (IsLed map number m n) → All (IsLed map number m n) (targets_at map k) → IsVisited map number m k
  indirect_visited fall at falls lands =
      visited_from (IndirectCall fall) at
      (λ b there. ⊎_elim (λ first. any_of (IsLed map number m n) fall falls b first) (λ pad. kept_led lands b pad) (Contains-append_cases (option_to_list fall) (targets_at map k) b there))
      (λ leaves. absurd leaves) (λ t f call. absurd (cc))

  pub table_visited : (entries : ℕ) (full is_open : Bool) → flow_at map k ≡ Some (Table entries full is_open) → All (IsLed map number m n) (targets_at map k) → IsVisited map number m k
  table_visited entries full is_open at led =
      visited_from (Table entries full is_open) at (kept_led led) (λ leaves. absurd leaves) (λ t f call. absurd (cc))

  pub return_visited : flow_at map k ≡ Some Return → IsOn m.returns.items n → IsVisited map number m k
  return_visited at on = visited_from Return at (λ b there. absurd (none_in b there)) (λ leaves. on) (λ t f call. absurd (cc))

  pub unknown_visited : flow_at map k ≡ Some Unknown → IsOn m.returns.items n → IsVisited map number m k
  unknown_visited at on = visited_from Unknown at (λ b there. absurd (none_in b there)) (λ leaves. on) (λ t f call. absurd (cc))

  pub stop_visited : flow_at map k ≡ Some Stop → IsVisited map number m k
  stop_visited at = visited_from Stop at (λ b there. absurd (none_in b there)) (λ leaves. absurd leaves) (λ t f call. absurd (cc))

-- ---- the addresses of a branch

pub some_of : (P : ℕ → Type 0) (o : Option ℕ) → ((b : ℕ) → o ≡ Some b → P b) → IfSome o P
some_of P None each = tt
some_of P (Some b) each = each b refl

pub in_first : (o p : Option ℕ) (b : ℕ) → o ≡ Some b → Contains (option_to_list o ++ option_to_list p) b
in_first None p b is = absurd (none-some b is)
in_first (Some a) p b is = let same : a ≡ b = cc in subst (λ x. Contains (a ∷ option_to_list p) x) same (head_in a (option_to_list p))

pub in_second : (o p : Option ℕ) (b : ℕ) → p ≡ Some b → Contains (option_to_list o ++ option_to_list p) b
in_second o None b is = absurd (none-some b is)
in_second None (Some a) b is = let same : a ≡ b = cc in subst (λ x. Contains (a ∷ []) x) same (head_in a [])
in_second (Some c) (Some a) b is = let same : a ≡ b = cc in tail_in c b (a ∷ []) (subst (λ x. Contains (a ∷ []) x) same (head_in a []))

pub in_one : (o : Option ℕ) (b : ℕ) → o ≡ Some b → Contains (option_to_list o) b
in_one None b is = absurd (none-some b is)
in_one (Some a) b is = let same : a ≡ b = cc in subst (λ x. Contains (a ∷ []) x) same (head_in a [])
