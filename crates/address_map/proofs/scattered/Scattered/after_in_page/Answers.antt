use Rattle.std.proofs.Common.{sym, ap, ◌∙◌}
use Rattle.std.specs.Option.{option_copied}
use Rattle.address_map.proofs.KeysAfter.{next_in_page, no_next_in_page}
use Rattle.address_map.proofs.scattered.Scattered.after_in_page.Goals as goal

pub returns-in-Some : goal.returns-in-Some
returns-in-Some g c =
    next_in_page c.self.inside.chunks.entries c.args.self.now c.self.view_is c.self.invariant.0 c.self.invariant.1 c.chunk.result c.in-Some.chunk.now (sym c.get.ensures.value ∙ ap option_copied c.in-Some.is) c.args.a c.chunk.ensures c.after_in_page.result c.after_in_page.ensures

pub returns-in-None : goal.returns-in-None
returns-in-None g c = no_next_in_page c.self.inside.chunks.entries c.args.self.now c.self.view_is c.self.invariant.0 c.self.invariant.1 c.chunk.result (sym c.get.ensures.value ∙ ap option_copied c.in-None.is) c.args.a c.chunk.ensures
