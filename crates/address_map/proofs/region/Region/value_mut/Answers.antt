use Rattle.std.proofs.Common.{refl, sym, ap, ◌∙◌, arith}
use Rattle.std.specs.Prelude.{is_some}
use Rattle.address_map.specs.inner.Grouped.{place_of}
use Rattle.address_map.proofs.PartsJoined.{inside_of, same_there, still_inserted, insert_whole}
use Rattle.address_map.proofs.region.Region.value_mut.Goals as goal

pub index_mut-chunk-requires : goal.index_mut-chunk-requires
index_mut-chunk-requires g c =
    omega (arith, inside_of place_of _ c.self.invariant _ c.self.view_is c.args.k c.requires, c.place.ensures, c.self.inside.chunks.ok.0)

pub value_mut-requires : goal.value_mut-requires
value_mut-requires g c = ap is_some (same_there place_of _ c.self.invariant c.args.k _ c.place.ensures (omega (arith, inside_of place_of _ c.self.invariant _ c.self.view_is c.args.k c.requires, c.place.ensures)) _ c.index_mut-chunk.ensures.value _ c.self.view_is) ∙ c.requires

pub invariant_of-self-lent : goal.invariant_of-self-lent
invariant_of-self-lent g c = λ w. still_inserted place_of _ c.self.invariant c.args.k _ c.place.ensures (omega (arith, inside_of place_of _ c.self.invariant _ c.self.view_is c.args.k c.requires, c.place.ensures)) _ c.index_mut-chunk.ensures.value _ w refl

pub returns : goal.returns
returns g c = (
  (refl, λ w. insert_whole place_of _ c.self.invariant c.args.k _ c.place.ensures (omega (arith, inside_of place_of _ c.self.invariant _ c.self.view_is c.args.k c.requires, c.place.ensures)) _ c.index_mut-chunk.ensures.value _ w refl _ c.self.view_is),
  record {
    writes_back = tt;
    value = sym (same_there place_of _ c.self.invariant c.args.k _ c.place.ensures (omega (arith, inside_of place_of _ c.self.invariant _ c.self.view_is c.args.k c.requires, c.place.ensures)) _ c.index_mut-chunk.ensures.value _ c.self.view_is) ∙ c.value_mut.ensures.value;
  },
)
