use Rattle.std.proofs.Common.{sym, ◌∙◌}
use Rattle.address_map.proofs.NearAndFar.{near_own, page_near, page_far}
use Rattle.address_map.proofs.map.AddressMap.after_in_page.Goals as goal

pub after_in_page-requires : goal.after_in_page-requires
after_in_page-requires g c = λ x has. near_own c.self.inside.number c.self.inside.near c.self.inside.far c.args.self.now c.self.invariant c.self.view_is x has ∙ sym (sym c.region_number.ensures ∙ c.if-region_number-self.true)

pub returns-then-region_number-self : goal.returns-then-region_number-self
returns-then-region_number-self g c =
    page_near c.self.inside.number c.self.inside.near c.self.inside.far c.args.self.now c.self.invariant c.self.view_is c.args.a (sym c.region_number.ensures ∙ c.if-region_number-self.true) c.after_in_page.result c.after_in_page.ensures

pub returns-else-region_number-self : goal.returns-else-region_number-self
returns-else-region_number-self g c =
    page_far c.self.inside.number c.self.inside.near c.self.inside.far c.args.self.now c.self.invariant c.self.view_is c.args.a (λ same. c.if-region_number-self.false (c.region_number.ensures ∙ same)) c.after_in_page-else-region_number-self.result c.after_in_page-else-region_number-self.ensures
