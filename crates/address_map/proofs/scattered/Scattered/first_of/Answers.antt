use Rattle.std.proofs.Common.{sym, ap, ◌∙◌}
use Rattle.std.specs.Option.{option_copied}
use Rattle.address_map.proofs.KeysAfter.{together, first_in_chunk, no_first}
use Rattle.address_map.proofs.scattered.Scattered.first_of.Goals as goal

pub after-requires-clause-together : goal.after-requires-clause-together
after-requires-clause-together g c =
    together c.self.inside.chunks.entries c.args.self.now c.self.view_is c.self.invariant.0 c.self.invariant.1 c.args.number c.in-Some.chunk.now (sym c.get.ensures.value ∙ ap option_copied c.in-Some.is)

pub returns-in-Some-clause-least : goal.returns-in-Some-clause-least
returns-in-Some-clause-least g c =
    first_in_chunk c.self.inside.chunks.entries c.args.self.now c.self.view_is c.self.invariant.0 c.self.invariant.1 c.args.number c.in-Some.chunk.now (sym c.get.ensures.value ∙ ap option_copied c.in-Some.is)
    c.after.result c.after.ensures

pub returns-in-None-clause-least : goal.returns-in-None-clause-least
returns-in-None-clause-least g c =
    no_first c.self.inside.chunks.entries c.args.self.now c.self.view_is c.self.invariant.0 c.self.invariant.1 c.args.number (sym c.get.ensures.value ∙ ap option_copied c.in-None.is)
