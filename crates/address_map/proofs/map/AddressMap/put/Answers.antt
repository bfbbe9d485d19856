use Rattle.std.proofs.Common.{refl, [], ◌∷◌, sym, ap, ◌∙◌, arith}
use Rattle.std.specs.Prelude.{is_some, not}
use Rattle.std.proofs.lemmas.Result.{IfOk-weaker, on_ok_weaker}
use Rattle.address_map.specs.Keys.{with_new}
use Rattle.address_map.specs.inner.Grouped.{side_of}
use Rattle.address_map.proofs.OneEntry.{either}
use Rattle.address_map.proofs.PartsJoined.{same_there, changed, still, still_after, new_local}
use Rattle.address_map.proofs.NearAndFar.{on_near, on_far}
use Rattle.address_map.proofs.map.AddressMap.put.Goals as goal

pub invariant_of-self : goal.invariant_of-self
invariant_of-self g c =
    either c.add.result c.add.ensures.added c.add.ensures.unchanged
    (λ is. still_after (side_of c.self.inside.number) (c.self.inside.near ∷ c.self.inside.far ∷ []) c.self.invariant c.args.k 0 (on_near _ _ (sym c.region_number.ensures ∙ c.if-region_number-self.true)) (omega arith) c.self.inside.near refl (λ m. with_new m c.args.k c.args.value) (new_local c.args.k c.args.value) _ is)
    (λ same. still (side_of c.self.inside.number) (c.self.inside.near ∷ c.self.inside.far ∷ []) c.self.invariant c.args.k 0 (on_near _ _ (sym c.region_number.ensures ∙ c.if-region_number-self.true)) (omega arith) c.self.inside.near refl _ same)

pub returns-then-region_number-self-clause-added : goal.returns-then-region_number-self-clause-added
returns-then-region_number-self-clause-added g c =
    on_ok_weaker c.add.result
    (λ is. changed (side_of c.self.inside.number) (c.self.inside.near ∷ c.self.inside.far ∷ []) c.self.invariant c.args.k 0 (on_near _ _ (sym c.region_number.ensures ∙ c.if-region_number-self.true)) (omega arith) c.self.inside.near refl (λ m. with_new m c.args.k c.args.value) (new_local c.args.k c.args.value) _ is _ c.self.view_is)
    c.add.ensures.added

pub returns-then-region_number-self-clause-answer : goal.returns-then-region_number-self-clause-answer
returns-then-region_number-self-clause-answer g c =
    IfOk-weaker c.add.result _ _
    (λ new is. is ∙ ap not (ap is_some (same_there (side_of c.self.inside.number) (c.self.inside.near ∷ c.self.inside.far ∷ []) c.self.invariant c.args.k 0 (on_near _ _ (sym c.region_number.ensures ∙ c.if-region_number-self.true)) (omega arith) c.self.inside.near refl _ c.self.view_is)))
    c.add.ensures.answer

pub invariant_of-self-else-region_number-self : goal.invariant_of-self-else-region_number-self
invariant_of-self-else-region_number-self g c =
    either c.add-else-region_number-self.result c.add-else-region_number-self.ensures.added c.add-else-region_number-self.ensures.unchanged
    (λ is. still_after (side_of c.self.inside.number) (c.self.inside.near ∷ c.self.inside.far ∷ []) c.self.invariant c.args.k 1 (on_far _ _ (λ same. c.if-region_number-self.false (c.region_number.ensures ∙ same))) (omega arith) c.self.inside.far refl (λ m. with_new m c.args.k c.args.value) (new_local c.args.k c.args.value) _ is)
    (λ same. still (side_of c.self.inside.number) (c.self.inside.near ∷ c.self.inside.far ∷ []) c.self.invariant c.args.k 1 (on_far _ _ (λ same. c.if-region_number-self.false (c.region_number.ensures ∙ same))) (omega arith) c.self.inside.far refl _ same)

pub returns-else-region_number-self-clause-added : goal.returns-else-region_number-self-clause-added
returns-else-region_number-self-clause-added g c =
    on_ok_weaker c.add-else-region_number-self.result
    (λ is. changed (side_of c.self.inside.number) (c.self.inside.near ∷ c.self.inside.far ∷ []) c.self.invariant c.args.k 1 (on_far _ _ (λ same. c.if-region_number-self.false (c.region_number.ensures ∙ same))) (omega arith) c.self.inside.far refl (λ m. with_new m c.args.k c.args.value) (new_local c.args.k c.args.value) _ is _ c.self.view_is)
    c.add-else-region_number-self.ensures.added

pub returns-else-region_number-self-clause-answer : goal.returns-else-region_number-self-clause-answer
returns-else-region_number-self-clause-answer g c =
    IfOk-weaker c.add-else-region_number-self.result _ _
    (λ new is. is ∙ ap not (ap is_some (same_there (side_of c.self.inside.number) (c.self.inside.near ∷ c.self.inside.far ∷ []) c.self.invariant c.args.k 1 (on_far _ _ (λ same. c.if-region_number-self.false (c.region_number.ensures ∙ same))) (omega arith) c.self.inside.far refl _ c.self.view_is)))
    c.add-else-region_number-self.ensures.answer
