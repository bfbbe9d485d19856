use Rattle.std.proofs.Common.{refl, sym, ap, ◌∙◌}
use Rattle.std.specs.Prelude.{Some, None, is_some, not}
use Rattle.std.specs.Option.{option_copied_mut}
use Rattle.std.specs.FinMap as maps
use Rattle.std.proofs.lemmas.Result.{IfOk-weaker, on_ok_weaker, on_err_weaker}
use Rattle.address_map.specs.Keys.{with_new}
use Rattle.address_map.proofs.OneEntry.{either}
use Rattle.address_map.proofs.ChunksJoined.{still_chunks, still_added, whole_altered, whole_added, answered}
use Rattle.address_map.proofs.scattered.Scattered.add.Goals as goal

pub invariant_of-self : goal.invariant_of-self
invariant_of-self g c = (
  (c.get_mut.follows.holds c.add.new.self).4,
  either c.add.result c.add.ensures.added c.add.ensures.unchanged
      (λ is. still_added c.self.inside.chunks.entries c.args.self.now c.self.view_is c.self.invariant.0 c.self.invariant.1 c.args.k c.chunk-number.result c.chunk-number.ensures (Some c.in-Some.chunk.now) (sym c.get_mut.ensures.value ∙ ap option_copied_mut c.in-Some.is) c.args.value c.add.new.self is (c.get_mut.follows.lender c.add.new.self).entries ((c.get_mut.follows.holds c.add.new.self).3 (ap is_some (sym c.get_mut.ensures.value ∙ ap option_copied_mut c.in-Some.is))).0)
      (λ same. still_chunks c.self.inside.chunks.entries c.args.self.now c.self.view_is c.self.invariant.0 c.self.invariant.1 c.args.k c.chunk-number.result c.chunk-number.ensures (Some c.in-Some.chunk.now) (sym c.get_mut.ensures.value ∙ ap option_copied_mut c.in-Some.is) c.add.new.self None same (c.get_mut.follows.lender c.add.new.self).entries ((c.get_mut.follows.holds c.add.new.self).3 (ap is_some (sym c.get_mut.ensures.value ∙ ap option_copied_mut c.in-Some.is))).0),
)

pub returns-in-Some-clause-added : goal.returns-in-Some-clause-added
returns-in-Some-clause-added g c =
    on_ok_weaker c.add.result
    (λ is. whole_added c.self.inside.chunks.entries c.args.self.now c.self.view_is c.self.invariant.0 c.self.invariant.1 c.args.k c.chunk-number.result c.chunk-number.ensures (Some c.in-Some.chunk.now) (sym c.get_mut.ensures.value ∙ ap option_copied_mut c.in-Some.is) c.args.value c.add.new.self is (c.get_mut.follows.lender c.add.new.self).entries ((c.get_mut.follows.holds c.add.new.self).3 (ap is_some (sym c.get_mut.ensures.value ∙ ap option_copied_mut c.in-Some.is))).0 (c.get_mut.follows.holds c.add.new.self).4)
    c.add.ensures.added

pub returns-in-Some-clause-answer : goal.returns-in-Some-clause-answer
returns-in-Some-clause-answer g c =
    IfOk-weaker c.add.result _ _ (λ new is. is ∙ ap not (sym (answered c.self.inside.chunks.entries c.args.self.now c.self.view_is c.self.invariant.0 c.self.invariant.1 c.args.k c.chunk-number.result c.chunk-number.ensures (Some c.in-Some.chunk.now) (sym c.get_mut.ensures.value ∙ ap option_copied_mut c.in-Some.is) (maps.contains_key c.in-Some.chunk.now c.args.k) refl))) c.add.ensures.answer

pub returns-in-Some-clause-unchanged : goal.returns-in-Some-clause-unchanged
returns-in-Some-clause-unchanged g c =
    on_err_weaker c.add.result
    (λ same. whole_altered c.self.inside.chunks.entries c.args.self.now c.self.view_is c.self.invariant.0 c.self.invariant.1 c.args.k c.chunk-number.result c.chunk-number.ensures (Some c.in-Some.chunk.now) (sym c.get_mut.ensures.value ∙ ap option_copied_mut c.in-Some.is) c.add.new.self None same (c.get_mut.follows.lender c.add.new.self).entries ((c.get_mut.follows.holds c.add.new.self).3 (ap is_some (sym c.get_mut.ensures.value ∙ ap option_copied_mut c.in-Some.is))).0 (c.get_mut.follows.holds c.add.new.self).4)
    c.add.ensures.unchanged

pub invariant_of-self-2 : goal.invariant_of-self-2
invariant_of-self-2 g c =
    let puts = rw c.get_mut.follows.holds-at-none at c.in_ok-insert.ensures.updates.0 in
    (c.in_ok-insert.ensures.ordered, still_added c.self.inside.chunks.entries c.args.self.now c.self.view_is c.self.invariant.0 c.self.invariant.1 c.args.k c.chunk-number.result c.chunk-number.ensures None (sym c.get_mut.ensures.value ∙ ap option_copied_mut c.in_default.is) c.args.value c.add-2.new.self (c.in_ok-new.ensures.added ∙ ap (λ m. with_new m c.args.k c.args.value) c.new-fresh.ensures) _ puts)

pub returns-clause-added : goal.returns-clause-added
returns-clause-added g c =
    let puts = rw c.get_mut.follows.holds-at-none at c.in_ok-insert.ensures.updates.0 in
    whole_added c.self.inside.chunks.entries c.args.self.now c.self.view_is c.self.invariant.0 c.self.invariant.1 c.args.k c.chunk-number.result c.chunk-number.ensures None (sym c.get_mut.ensures.value ∙ ap option_copied_mut c.in_default.is) c.args.value c.add-2.new.self (c.in_ok-new.ensures.added ∙ ap (λ m. with_new m c.args.k c.args.value) c.new-fresh.ensures) _ puts c.in_ok-insert.ensures.ordered

pub returns-clause-answer : goal.returns-clause-answer
returns-clause-answer g c =
    c.in_ok-new.ensures.answer
    ∙ ap not (ap (λ m. maps.contains_key m c.args.k) c.new-fresh.ensures ∙ sym (answered c.self.inside.chunks.entries c.args.self.now c.self.view_is c.self.invariant.0 c.self.invariant.1 c.args.k c.chunk-number.result c.chunk-number.ensures None (sym c.get_mut.ensures.value ∙ ap option_copied_mut c.in_default.is) (maps.contains_key maps.empty c.args.k) refl))
