-- Ranks: what has a rank below one number has it below each greater one, so a least rank is one.
use Rattle.std.proofs.Common.{◌≡◌, ℕ, zero, suc, ◌≤◌, List, arith, subst, ⊎_elim}
use Rattle.std.proofs.lemmas.Bool.{cases_lt, cases_order}
use Rattle.cert_text.specs.declared.lines.ReturnWhy.{ReturnWhy}
use Rattle.cert_text.specs.declared.lines.ReturnWhy.TheVariants.{Itself, To, CallBoth}
use Rattle.cert_text.specs.declared.lines.LeadWhy.{LeadWhy}
use Rattle.cert_text.specs.declared.lines.LeadWhy.TheVariants.{Seed, From, Join}
use Rattle.cfg_model.specs.Program.Instructions.{InstructionMap}
use Rattle.cert_make.specs.Reason.{EndCounts, ReturnsFor, LeadsFor}
use Rattle.cert_make.specs.Rank.{ReturnsBelow, LeadsBelow, IsRank}

end_weaker : (map : InstructionMap) (A B : ℕ → Type 0) → ((k : ℕ) → A k → B k) → (a : ℕ) → EndCounts map A a → EndCounts map B a
end_weaker map A B more a end = (end.0, end.1, more end.0 end.2)

pub returns_weaker : (map : InstructionMap) (A B : ℕ → Type 0) → ((k : ℕ) → A k → B k) → (k : ℕ) (why : ReturnWhy) → ReturnsFor map A k why → ReturnsFor map B k why
returns_weaker map A B more k Itself reason = reason
returns_weaker map A B more k (To target) reason = (reason.0, end_weaker map A B more target reason.1)
returns_weaker map A B more k CallBoth reason =
    (reason.0, reason.1, reason.2, end_weaker map A B more reason.0 reason.3, end_weaker map A B more reason.1 reason.4)

pub leads_weaker : (map : InstructionMap) (seeds : List ℕ) (A B : ℕ → Type 0) → ((k : ℕ) → A k → B k) → (a : ℕ) (why : LeadWhy) → LeadsFor map seeds A a why → LeadsFor map seeds B a why
leads_weaker map seeds A B more a Seed reason = reason
leads_weaker map seeds A B more a (From lead) reason = (more lead reason.0, reason.1)
leads_weaker map seeds A B more a (Join first second) reason = (more first reason.0, more second reason.1, reason.2, reason.3)

-- one rank more
returns_step : (map : InstructionMap) (rank k : ℕ) → ReturnsBelow map rank k → ReturnsBelow map (suc rank) k
unfolding ReturnsBelow
returns_step map zero k below = absurd below
returns_step map (suc rank) k below =
    (below.0, returns_weaker map (ReturnsBelow map rank) (ReturnsBelow map (suc rank)) (returns_step map rank) k below.0 below.1)

leads_step : (map : InstructionMap) (seeds : List ℕ) (rank a : ℕ) → LeadsBelow map seeds rank a → LeadsBelow map seeds (suc rank) a
unfolding LeadsBelow
leads_step map seeds zero a below = absurd below
leads_step map seeds (suc rank) a below =
    (below.0, leads_weaker map seeds (LeadsBelow map seeds rank) (LeadsBelow map seeds (suc rank)) (leads_step map seeds rank) a below.0 below.1)

-- Each rank counts from one on.
pub record IsRising (Below : ℕ → ℕ → Type 0) : Type 0 where
  pub more : (rank a : ℕ) → Below rank a → Below (suc rank) a

pub returns_rise : (map : InstructionMap) → IsRising (ReturnsBelow map)
returns_rise map = record { more = returns_step map }

pub leads_rise : (map : InstructionMap) (seeds : List ℕ) → IsRising (LeadsBelow map seeds)
leads_rise map seeds = record { more = leads_step map seeds }

pub below_up : (Below : ℕ → ℕ → Type 0) → IsRising Below → (rank more a : ℕ) → rank ≤ more → Below rank a → Below more a
below_up Below rises rank zero a le below = let P : ℕ → Type 0 = λ r. Below r a in let none : rank ≡ 0 = omega arith in subst P none below
below_up Below rises rank (suc more) a le below =
    ⊎_elim
    (λ lt. rises.more more a (below_up Below rises rank more a (omega arith) below))
    (λ ge. let P : ℕ → Type 0 = λ r. Below r a in let same : rank ≡ suc more = omega arith in subst P same below)
    (cases_lt rank (suc more))

pub one_rank : (Below : ℕ → ℕ → Type 0) → IsRising Below → (a rank other : ℕ) → IsRank Below a rank → IsRank Below a other → rank ≡ other
one_rank Below rises a rank other one another =
    ⊎_elim
    (λ same. same)
    (λ apart. ⊎_elim
    (λ lt. absurd (another.least (below_up Below rises (suc rank) other a (omega arith) one.has)))
    (λ gt. absurd (one.least (below_up Below rises (suc other) rank a (omega arith) another.has)))
    apart)
    (cases_order rank other)
