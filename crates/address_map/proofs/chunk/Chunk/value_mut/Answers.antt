use Rattle.std.proofs.Common.{refl, arith}
use Rattle.address_map.proofs.EntriesKept.{some_place, first_there, place_inside, entry_value, written_seen, written_linked}
use Rattle.address_map.proofs.chunk.Chunk.value_mut.Goals as goal

pub unwrap-place-requires : goal.unwrap-place-requires
unwrap-place-requires g c = some_place _ _ c.as_slice-2.ensures.value c.args.k _ c.args.self.now c.self.view_is c.place_in_page.ensures.none c.requires

pub index_mut-entry-requires : goal.index_mut-entry-requires
index_mut-entry-requires g c =
    let first = first_there _ _ c.as_slice-2.ensures.value c.args.k _ c.place_in_page.ensures.some _ c.unwrap-place.ensures in
    omega (arith, place_inside _ _ c.self.invariant c.args.self.now c.self.view_is c.args.k c.unwrap-place.result first, c.self.inside.entries.ok.0)

pub invariant_of-self-lent : goal.invariant_of-self-lent
invariant_of-self-lent g c =
    written_linked _ _ c.self.invariant c.args.self.now c.self.view_is c.args.k c.unwrap-place.result
    (first_there _ _ c.as_slice-2.ensures.value c.args.k _ c.place_in_page.ensures.some _ c.unwrap-place.ensures) c.index_mut-entry.result.now c.index_mut-entry.ensures.value

pub returns : goal.returns
returns g c = (
  (
    refl,
    written_seen _ _ c.self.invariant c.args.self.now c.self.view_is c.args.k c.unwrap-place.result
        (first_there _ _ c.as_slice-2.ensures.value c.args.k _ c.place_in_page.ensures.some _ c.unwrap-place.ensures) c.index_mut-entry.result.now c.index_mut-entry.ensures.value,
  ),
  record {
    writes_back = tt;
    value =
        entry_value _ _ c.self.invariant c.args.self.now c.self.view_is c.args.k c.unwrap-place.result
        (first_there _ _ c.as_slice-2.ensures.value c.args.k _ c.place_in_page.ensures.some _ c.unwrap-place.ensures) c.index_mut-entry.result.now c.index_mut-entry.ensures.value;
  },
)
