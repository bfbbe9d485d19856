use Rattle.std.proofs.Common.{sym, ◌∙◌}
use Rattle.address_map.proofs.NearAndFar.{in_near, in_far}
use Rattle.address_map.proofs.map.AddressMap.get.Goals as goal

pub returns-then-region_number-self : goal.returns-then-region_number-self
returns-then-region_number-self g c = c.get.ensures ∙ in_near c.self.inside.number c.self.inside.near c.self.inside.far c.args.self.now c.self.invariant c.self.view_is c.args.k (sym c.region_number.ensures ∙ c.if-region_number-self.true)

pub returns-else-region_number-self : goal.returns-else-region_number-self
returns-else-region_number-self g c =
    c.get-else-region_number-self.ensures ∙ in_far c.self.inside.number c.self.inside.near c.self.inside.far c.args.self.now c.self.invariant c.self.view_is c.args.k (λ same. c.if-region_number-self.false (c.region_number.ensures ∙ same))
