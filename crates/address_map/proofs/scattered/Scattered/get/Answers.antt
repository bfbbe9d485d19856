use Rattle.std.proofs.Common.{sym, ap, ◌∙◌}
use Rattle.std.specs.Prelude.{Some, None}
use Rattle.std.specs.Option.{option_copied}
use Rattle.address_map.proofs.ChunksJoined.{in_its_chunk}
use Rattle.address_map.proofs.scattered.Scattered.get.Goals as goal

pub returns-in-Some : goal.returns-in-Some
returns-in-Some g c =
    c.get-in-Some.ensures ∙ sym (in_its_chunk c.self.inside.chunks.entries c.args.self.now c.self.view_is c.self.invariant.0 c.self.invariant.1 c.args.k c.chunk.result c.chunk.ensures (Some c.in-Some.chunk.now) (sym c.get.ensures.value ∙ ap option_copied c.in-Some.is))

pub returns-in-None : goal.returns-in-None
returns-in-None g c =
    sym (in_its_chunk c.self.inside.chunks.entries c.args.self.now c.self.view_is c.self.invariant.0 c.self.invariant.1 c.args.k c.chunk.result c.chunk.ensures None (sym c.get.ensures.value ∙ ap option_copied c.in-None.is))
