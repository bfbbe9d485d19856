-- A part is valid exactly if each decider says so.
use Rattle.std.proofs.Common.{ℕ, Bool, false, List, get_or}
use Rattle.std.specs.Prelude.{◌↔◌, IsTrue, All, Contains, Option, Some, None, MatchOption}
use Rattle.cfg_model.specs.Program.Instructions.{InstructionMap}
use Rattle.cert_text.specs.declared.lines.LeadLine.{LeadLine}
use Rattle.cert_text.specs.declared.lines.LeadWhy.{LeadWhy}
use Rattle.cert_text.specs.declared.lines.LeadWhy.TheVariants.{Seed, From, Join}
use Rattle.cert_text.specs.declared.certificate.Part.{Part}
use Rattle.cert_laws.specs.Valid.{IsValid, LeadsBy}
use Rattle.cert_check.specs.Inner.Right.{AreFormed, EndsAreRight, LeadersAreRight}
use Rattle.cert_check.proofs.Each.{false_true}

-- what is asked for does not hold, so the whole does not
pub fails : {P Q : Type 0} → IsTrue false ↔ P → (Q → P) → IsTrue false ↔ Q
fails exact needs = (λ e. false_true e, λ q. false_true (exact.1 (needs q)))

-- what is asked for is all that is left
pub holds_by : {P Q : Type 0} (b : Bool) → IsTrue b ↔ P → (P → Q) → (Q → P) → IsTrue b ↔ Q
holds_by b exact there back = (λ e. there (exact.0 e), λ q. exact.1 (back q))

module _ (map : InstructionMap) (seeds : List ℕ) (part : Part) where
  pub valid_formed : IsValid map seeds part → AreFormed map seeds part
  valid_formed v = record { rising = v.rising; in_code = v.in_code; seeds_lead = v.seeds_lead }

  pub valid_ends : IsValid map seeds part → EndsAreRight map part
  valid_ends v = record { returns_end = v.returns_end; returns = v.returns; returns_closed = v.returns_closed }

  pub valid_leaders : IsValid map seeds part → LeadersAreRight map seeds part
  valid_leaders v = record { apart = v.apart; leads = record { closed = v.leads_closed; reasons = v.leads } }

  pub valid_by : AreFormed map seeds part → EndsAreRight map part → LeadersAreRight map seeds part → IsValid map seeds part
  valid_by formed ends leaders = record {
    rising = formed.rising;
    in_code = formed.in_code;
    seeds_lead = formed.seeds_lead;
    leads = leaders.leads.reasons;
    leads_closed = leaders.leads.closed;
    apart = leaders.apart;
    returns_end = ends.returns_end;
    returns = ends.returns;
    returns_closed = ends.returns_closed;
  }

-- a reason holds for the same seeds in another order
same_seeds : (map : InstructionMap) (seeds others : List ℕ) (part : Part) → ((a : ℕ) → Contains seeds a → Contains others a) → (rank a : ℕ) (why : LeadWhy) → LeadsBy map seeds part rank a why → LeadsBy map others part rank a why
same_seeds map seeds others part same rank a Seed h = same a h
same_seeds map seeds others part same rank a (From lead) h = h
same_seeds map seeds others part same rank a (Join first second) h = h

pub all_same_seeds : (map : InstructionMap) (seeds others : List ℕ) (part : Part) → ((a : ℕ) → Contains seeds a → Contains others a) → All (λ (l : LeadLine). LeadsBy map seeds part l.rank l.at l.why) part.leads
    → All (λ (l : LeadLine). LeadsBy map others part l.rank l.at l.why) part.leads
all_same_seeds map seeds others part same all = λ k d within. same_seeds map seeds others part same (get_or part.leads k d).rank (get_or part.leads k d).at (get_or part.leads k d).why (all k d within)

-- what is found, in other words
pub match_on : {X P R : Type 0} {Q S : X → Type 0} (o : Option X) → MatchOption o P Q → (P → R) → ((x : X) → Q x → S x) → MatchOption o R S
match_on None h none some = none h
match_on (Some x) h none some = some x h
