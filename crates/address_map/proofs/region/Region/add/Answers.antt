use Rattle.std.proofs.Common.{ap, ◌∙◌, arith}
use Rattle.std.specs.Prelude.{is_some, not}
use Rattle.std.proofs.lemmas.Result.{IfOk-weaker, on_ok_weaker, on_err_weaker}
use Rattle.address_map.specs.Keys.{with_new}
use Rattle.address_map.specs.inner.Grouped.{place_of}
use Rattle.address_map.proofs.OneEntry.{either}
use Rattle.address_map.proofs.PartsJoined.{same_parts, same_joined, same_there, changed, still, still_after, new_local, unchanged_whole, when_err}
use Rattle.address_map.proofs.region.Region.add.Goals as goal

pub invariant_of-self : goal.invariant_of-self
invariant_of-self g c = same_parts place_of _ _ c.extend.ensures.same c.self.invariant

pub returns-in_err-extend-clause-unchanged : goal.returns-in_err-extend-clause-unchanged
returns-in_err-extend-clause-unchanged g c = when_err _ (same_joined place_of _ _ c.extend.ensures.same c.self.invariant ∙ c.self.view_is)

pub index_mut-requires : goal.index_mut-requires
index_mut-requires g c = omega (arith, c.place-place.ensures, c.in_ok-extend.ensures.all, c.extend.new.chunks.ok.0)

pub invariant_of-self-2 : goal.invariant_of-self-2
invariant_of-self-2 g c =
    either c.add.result c.add.ensures.added c.add.ensures.unchanged
    (λ is. still_after place_of _ (same_parts place_of _ _ c.extend.ensures.same c.self.invariant) c.args.k _ c.place-place.ensures (omega (arith, c.place-place.ensures, c.in_ok-extend.ensures.all)) _ c.index_mut.ensures.value (λ m. with_new m c.args.k c.args.value) (new_local c.args.k c.args.value) _ is)
    (λ same. still place_of _ (same_parts place_of _ _ c.extend.ensures.same c.self.invariant) c.args.k _ c.place-place.ensures (omega (arith, c.place-place.ensures, c.in_ok-extend.ensures.all)) _ c.index_mut.ensures.value _ same)

pub returns-clause-added : goal.returns-clause-added
returns-clause-added g c =
    on_ok_weaker c.add.result
    (λ is. changed place_of _ (same_parts place_of _ _ c.extend.ensures.same c.self.invariant) c.args.k _ c.place-place.ensures (omega (arith, c.place-place.ensures, c.in_ok-extend.ensures.all)) _ c.index_mut.ensures.value (λ m. with_new m c.args.k c.args.value) (new_local c.args.k c.args.value) _ is _ (same_joined place_of _ _ c.extend.ensures.same c.self.invariant ∙ c.self.view_is))
    c.add.ensures.added

pub returns-clause-answer : goal.returns-clause-answer
returns-clause-answer g c =
    IfOk-weaker c.add.result _ _
    (λ new is. is ∙ ap not (ap is_some (same_there place_of _ (same_parts place_of _ _ c.extend.ensures.same c.self.invariant) c.args.k _ c.place-place.ensures (omega (arith, c.place-place.ensures, c.in_ok-extend.ensures.all)) _ c.index_mut.ensures.value _ (same_joined place_of _ _ c.extend.ensures.same c.self.invariant ∙ c.self.view_is))))
    c.add.ensures.answer

pub returns-clause-unchanged : goal.returns-clause-unchanged
returns-clause-unchanged g c =
    on_err_weaker c.add.result
    (λ same. unchanged_whole place_of _ (same_parts place_of _ _ c.extend.ensures.same c.self.invariant) c.args.k _ c.place-place.ensures (omega (arith, c.place-place.ensures, c.in_ok-extend.ensures.all)) _ c.index_mut.ensures.value _ same _ (same_joined place_of _ _ c.extend.ensures.same c.self.invariant ∙ c.self.view_is))
    c.add.ensures.unchanged
