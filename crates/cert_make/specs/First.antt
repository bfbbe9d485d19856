-- Which reason is taken where several fit: the first in the order of the variants, then by its
-- addresses.
use Rattle.std.specs.Prelude.{◌≡◌, ◌<◌, ◌⊎◌}
use Rattle.cert_text.specs.declared.lines.ReturnWhy.{ReturnWhy}
use Rattle.cert_text.specs.declared.lines.ReturnWhy.TheVariants.{Itself, To, CallBoth}
use Rattle.cert_text.specs.declared.lines.LeadWhy.{LeadWhy}
use Rattle.cert_text.specs.declared.lines.LeadWhy.TheVariants.{Seed, From, Join}

abbrev pub ReturnWhyBefore : ReturnWhy → ReturnWhy → Type 0
ReturnWhyBefore Itself Itself = ⊥
ReturnWhyBefore Itself (To target) = Unit {0}
ReturnWhyBefore Itself CallBoth = Unit {0}
ReturnWhyBefore (To target) Itself = ⊥
ReturnWhyBefore (To target) (To other) = target < other
ReturnWhyBefore (To target) CallBoth = Unit {0}
ReturnWhyBefore CallBoth why = ⊥

abbrev pub LeadWhyBefore : LeadWhy → LeadWhy → Type 0
LeadWhyBefore Seed Seed = ⊥
LeadWhyBefore Seed (From lead) = Unit {0}
LeadWhyBefore Seed (Join first second) = Unit {0}
LeadWhyBefore (From lead) Seed = ⊥
LeadWhyBefore (From lead) (From other) = lead < other
LeadWhyBefore (From lead) (Join first second) = Unit {0}
LeadWhyBefore (Join first second) Seed = ⊥
LeadWhyBefore (Join first second) (From lead) = ⊥
LeadWhyBefore (Join first second) (Join other another) =
    (first < other) ⊎ ((first ≡ other) × (second < another))

-- This one fits, and none before it does.
pub record IsFirst {X : Type 0} (Before : X → X → Type 0) (Fits : X → Type 0) (x : X) : Type 0 where
  pub fits : Fits x
  pub first : (y : X) → Fits y → ¬ Before y x
