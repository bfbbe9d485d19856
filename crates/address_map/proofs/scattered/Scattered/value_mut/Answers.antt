use Rattle.std.proofs.Common.{refl, sym, ap, ◌∙◌}
use Rattle.std.specs.Prelude.{Some, is_some}
use Rattle.std.specs.Option.{option_copied_mut}
use Rattle.std.specs.FinMap as maps
use Rattle.address_map.proofs.ChunksJoined.{in_its_chunk, chunk_there, some_behind, still_chunks, whole_altered}
use Rattle.address_map.proofs.scattered.Scattered.value_mut.Goals as goal

pub unwrap-chunk-requires : goal.unwrap-chunk-requires
unwrap-chunk-requires g c =
    some_behind c.get_mut.result (chunk_there c.self.inside.chunks.entries c.args.self.now c.self.view_is c.self.invariant.0 c.self.invariant.1 c.args.k c.chunk.result c.chunk.ensures _ (sym c.get_mut.ensures.value) c.requires)

pub value_mut-requires : goal.value_mut-requires
value_mut-requires g c = ap is_some (sym (in_its_chunk c.self.inside.chunks.entries c.args.self.now c.self.view_is c.self.invariant.0 c.self.invariant.1 c.args.k c.chunk.result c.chunk.ensures (Some c.unwrap-chunk.result.now) (sym c.get_mut.ensures.value ∙ ap option_copied_mut c.unwrap-chunk.ensures))) ∙ c.requires

pub invariant_of-self-lent : goal.invariant_of-self-lent
invariant_of-self-lent g c = λ w. (
  (c.get_mut.follows.holds (maps.insert c.unwrap-chunk.result.now c.args.k w)).4,
  still_chunks c.self.inside.chunks.entries c.args.self.now c.self.view_is c.self.invariant.0 c.self.invariant.1 c.args.k c.chunk.result c.chunk.ensures (Some c.unwrap-chunk.result.now) (sym c.get_mut.ensures.value ∙ ap option_copied_mut c.unwrap-chunk.ensures) (maps.insert c.unwrap-chunk.result.now c.args.k w) (Some w) refl (c.get_mut.follows.lender (maps.insert c.unwrap-chunk.result.now c.args.k w)).entries ((c.get_mut.follows.holds (maps.insert c.unwrap-chunk.result.now c.args.k w)).3 (ap is_some (sym c.get_mut.ensures.value ∙ ap option_copied_mut c.unwrap-chunk.ensures))).0,
)

pub returns : goal.returns
returns g c = (
  (refl, λ w. whole_altered c.self.inside.chunks.entries c.args.self.now c.self.view_is c.self.invariant.0 c.self.invariant.1 c.args.k c.chunk.result c.chunk.ensures (Some c.unwrap-chunk.result.now) (sym c.get_mut.ensures.value ∙ ap option_copied_mut c.unwrap-chunk.ensures) (maps.insert c.unwrap-chunk.result.now c.args.k w) (Some w) refl (c.get_mut.follows.lender (maps.insert c.unwrap-chunk.result.now c.args.k w)).entries ((c.get_mut.follows.holds (maps.insert c.unwrap-chunk.result.now c.args.k w)).3 (ap is_some (sym c.get_mut.ensures.value ∙ ap option_copied_mut c.unwrap-chunk.ensures))).0 (c.get_mut.follows.holds (maps.insert c.unwrap-chunk.result.now c.args.k w)).4),
  record {
    writes_back = tt;
    value = in_its_chunk c.self.inside.chunks.entries c.args.self.now c.self.view_is c.self.invariant.0 c.self.invariant.1 c.args.k c.chunk.result c.chunk.ensures (Some c.unwrap-chunk.result.now) (sym c.get_mut.ensures.value ∙ ap option_copied_mut c.unwrap-chunk.ensures) ∙ c.value_mut.ensures.value;
  },
)
