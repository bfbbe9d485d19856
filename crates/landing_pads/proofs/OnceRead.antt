-- Common records that are read once.
use Rattle.std.proofs.Common.{◌≡◌, ℕ, Option, Some, None, sym, ap, ◌∙◌}
use Rattle.std.specs.Map.{lookup}
use Rattle.std.specs.Ordering.{nat_cmp}
use Rattle.std.specs.BTreeMap.{BTreeMap, is_at, IsEmpty}
use Rattle.landing_pads.specs.declared.common.Common.{Common}
use Rattle.landing_pads.specs.Place.{Place}
use Rattle.landing_pads.specs.Inner.{AreRead}

nothing : {X : Type 0} (x : X) → None ≡ Some x → ⊥
nothing x e = cc

-- before the first
pub read-nothing : (section : Place) (m : BTreeMap ℕ (Option Common)) → IsEmpty m → AreRead section m
read-nothing section m empty at c found = absurd (nothing c (sym (ap (lookup (is_at (nat_cmp at))) empty) ∙ found))
