use Rattle.std.proofs.Common.{refl, [], ◌∷◌, sym, ap, ◌∙◌, arith}
use Rattle.std.specs.Prelude.{is_some}
use Rattle.address_map.specs.inner.Grouped.{side_of}
use Rattle.address_map.proofs.PartsJoined.{same_there, still_inserted, insert_whole}
use Rattle.address_map.proofs.NearAndFar.{on_near, on_far}
use Rattle.address_map.proofs.map.AddressMap.value_mut.Goals as goal

pub value_mut-requires : goal.value_mut-requires
value_mut-requires g c = ap is_some (same_there (side_of c.self.inside.number) (c.self.inside.near ∷ c.self.inside.far ∷ []) c.self.invariant c.args.k 0 (on_near _ _ (sym c.region_number.ensures ∙ c.if-region_number-self.true)) (omega arith) c.self.inside.near refl _ c.self.view_is) ∙ c.requires

pub invariant_of-self-lent : goal.invariant_of-self-lent
invariant_of-self-lent g c = λ w. still_inserted (side_of c.self.inside.number) (c.self.inside.near ∷ c.self.inside.far ∷ []) c.self.invariant c.args.k 0 (on_near _ _ (sym c.region_number.ensures ∙ c.if-region_number-self.true)) (omega arith) c.self.inside.near refl _ w refl

pub returns-then-region_number-self : goal.returns-then-region_number-self
returns-then-region_number-self g c = (
  (refl, λ w. insert_whole (side_of c.self.inside.number) (c.self.inside.near ∷ c.self.inside.far ∷ []) c.self.invariant c.args.k 0 (on_near _ _ (sym c.region_number.ensures ∙ c.if-region_number-self.true)) (omega arith) c.self.inside.near refl _ w refl _ c.self.view_is),
  record { writes_back = tt; value = sym (same_there (side_of c.self.inside.number) (c.self.inside.near ∷ c.self.inside.far ∷ []) c.self.invariant c.args.k 0 (on_near _ _ (sym c.region_number.ensures ∙ c.if-region_number-self.true)) (omega arith) c.self.inside.near refl _ c.self.view_is) ∙ c.value_mut.ensures.value },
)

pub value_mut-requires-else-region_number-self : goal.value_mut-requires-else-region_number-self
value_mut-requires-else-region_number-self g c = ap is_some (same_there (side_of c.self.inside.number) (c.self.inside.near ∷ c.self.inside.far ∷ []) c.self.invariant c.args.k 1 (on_far _ _ (λ same. c.if-region_number-self.false (c.region_number.ensures ∙ same))) (omega arith) c.self.inside.far refl _ c.self.view_is) ∙ c.requires

pub invariant_of-self-lent-else-region_number-self : goal.invariant_of-self-lent-else-region_number-self
invariant_of-self-lent-else-region_number-self g c = λ w. still_inserted (side_of c.self.inside.number) (c.self.inside.near ∷ c.self.inside.far ∷ []) c.self.invariant c.args.k 1 (on_far _ _ (λ same. c.if-region_number-self.false (c.region_number.ensures ∙ same))) (omega arith) c.self.inside.far refl _ w refl

pub returns-else-region_number-self : goal.returns-else-region_number-self
returns-else-region_number-self g c = (
  (refl, λ w. insert_whole (side_of c.self.inside.number) (c.self.inside.near ∷ c.self.inside.far ∷ []) c.self.invariant c.args.k 1 (on_far _ _ (λ same. c.if-region_number-self.false (c.region_number.ensures ∙ same))) (omega arith) c.self.inside.far refl _ w refl _ c.self.view_is),
  record { writes_back = tt; value = sym (same_there (side_of c.self.inside.number) (c.self.inside.near ∷ c.self.inside.far ∷ []) c.self.invariant c.args.k 1 (on_far _ _ (λ same. c.if-region_number-self.false (c.region_number.ensures ∙ same))) (omega arith) c.self.inside.far refl _ c.self.view_is) ∙ c.value_mut-else-region_number-self.ensures.value },
)
