use Rattle.std.proofs.Common.{◌≤◌, ◌<◌, ◌+◌, ◌∙◌, List, map, length, slice_set, length-set, refl, subst, sym, arith}
use Rattle.std.proofs.lemmas.Bool.{eqb-true, eqb-false}
use Rattle.std.proofs.lemmas.Option.{slice_get_read}
use Rattle.crossbeam_deque.specs.Handles.{worker_deque}
use Rattle.steal_pool.specs.declared.end.End.{End}
use Rattle.steal_pool.proofs.Making.{AreMaking, making_step, making_ends}
use Rattle.steal_pool.proofs.pool.ends_of.Goals as goal

pub loop-k-preserved : goal.loop-k-preserved
loop-k-preserved c =
    let inv = c.loop-k.invariant in
    let deques = map worker_deque c.args.owners.now.items in
    let owners = c.loop-k.owners.items in
    let made = c.in_ok-end_of.ensures in
    let inside : c.loop-k.k < length owners = omega (arith, c.loop-k-test.true, c.len-k-end.ensures, c.args.owners.now.ok.0, inv.1) in
    let here = slice_get_read owners (length owners) c.loop-k.k c.index_mut.result.now refl inside c.index_mut.ensures.value in (
      subst (λ (l : List End). AreMaking c.args.number (c.loop-k.k + 1) deques (slice_set owners c.loop-k.k c.end_of.new.own) l) (sym c.in_ok-push.ensures.items)
          (making_step c.args.number c.loop-k.k deques owners c.loop-k.ends.items c.index_mut.result.now c.end_of.new.own c.in_ok-end_of.field-0 inv.0 here made.new made.deque made.fits.0 made.fits.1 _
          (eqb-true c.loop-k.k c.args.number) (eqb-false c.loop-k.k c.args.number) made.whole made.note),
      length-set owners c.loop-k.k c.end_of.new.own ∙ inv.1,
    )

pub returns-clause-new : goal.returns-clause-new
returns-clause-new c =
    let inv = c.loop-k.invariant in
    let le : length c.loop-k.owners.items ≤ c.loop-k.k = omega (arith, c.loop-k-test.false, c.len-k-end.ensures, c.args.owners.now.ok.0, inv.1) in
    let ge : c.loop-k.k ≤ length c.loop-k.owners.items = omega (arith, c.loop-k.auto.k-end, c.len-k-end.ensures, c.args.owners.now.ok.0, inv.1) in
    (making_ends _ _ _ _ _ inv.0 le ge).0

pub returns-clause-ends : goal.returns-clause-ends
returns-clause-ends c =
    let inv = c.loop-k.invariant in
    let le : length c.loop-k.owners.items ≤ c.loop-k.k = omega (arith, c.loop-k-test.false, c.len-k-end.ensures, c.args.owners.now.ok.0, inv.1) in
    let ge : c.loop-k.k ≤ length c.loop-k.owners.items = omega (arith, c.loop-k.auto.k-end, c.len-k-end.ensures, c.args.owners.now.ok.0, inv.1) in
    (making_ends _ _ _ _ _ inv.0 le ge).1
