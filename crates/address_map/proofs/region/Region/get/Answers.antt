use Rattle.std.proofs.Common.{sym, ◌∙◌, arith}
use Rattle.address_map.specs.inner.Grouped.{place_of}
use Rattle.address_map.proofs.PartsJoined.{same_there, nowhere}
use Rattle.address_map.proofs.region.Region.get.Goals as goal

pub returns-then-place-len : goal.returns-then-place-len
returns-then-place-len g c =
    c.get.ensures
    ∙ same_there place_of _ c.self.invariant c.args.k _ c.place-place.ensures (omega (arith, c.if-place-len.true, c.len.ensures, c.self.inside.chunks.ok.0)) _ c.index.ensures _ c.self.view_is

pub returns-else-place-len : goal.returns-else-place-len
returns-else-place-len g c =
    sym (nowhere place_of _ c.self.invariant _ c.self.view_is c.args.k _ c.place-place.ensures (λ below. omega (arith, below, c.if-place-len.false, c.len.ensures, c.self.inside.chunks.ok.0)))
