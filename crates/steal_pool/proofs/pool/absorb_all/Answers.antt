use Rattle.std.proofs.Common.{◌≡◌, ◌≤◌, ◌<◌, ◌+◌, ◌∙◌, List, [], ◌∷◌, Some, length, slice_set, ap, refl, subst, sym, append-nil, arith}
use Rattle.std.specs.List.{slice_get}
use Rattle.std.specs.Option.{option_map}
use Rattle.std.proofs.lemmas.List.{length-map}
use Rattle.std.proofs.lemmas.Option.{same_Some, slice_get_read, slice_get_within, slice_get-map}
use Rattle.crossbeam_deque.specs.Handles.{IsPassOf, worker_deque}
use Rattle.steal_pool.specs.Pool.{DequeId}
use Rattle.steal_pool.specs.inner.Ends.{deque_of}
use Rattle.steal_pool.specs.inner.Building.{AreJoined, IsJoined}
use Rattle.steal_pool.proofs.Rules.{gathers}
use Rattle.steal_pool.proofs.Gathering.{joined_begins, joined_more, pop_at, pop_done, pop_length}
use Rattle.steal_pool.proofs.pool.absorb_all.Goals as goal

pub loop-end-init : goal.loop-end-init
loop-end-init c =
    let long : length c.args.owners.now.items ≤ length c.args.row.ends.items =
    omega (arith, ap (λ (l : List DequeId). length l) c.requires.deques, length-map c.args.row.ends.items deque_of, length-map c.args.owners.now.items worker_deque) in
    ([], sym (append-nil c.args.row.ends.items), joined_begins c.args.owners.now.items c.args.row.ends.items (length c.args.row.ends.items) long)

pub absorb-requires-clause-table : goal.absorb-requires-clause-table
absorb-requires-clause-table c =
    let inv = c.loop-end.invariant in
    let ys = c.pop.new.self.items in
    let e = c.in-Some.end in
    let popped = c.in-Some.ensures.items in
    let at_e = pop_at c.args.row.ends.items c.loop-end.ends.items inv.0 ys e inv.1 popped in
    let own = c.index_mut.result.now in
    let count : c.len.result ≡ length ys = omega (arith, c.len.ensures, c.pop.new.self.ok.0) in
    let inside : c.len.result < length c.loop-end.owners.items = omega (arith, count, slice_get_within c.args.row.ends.items (length ys) e at_e, inv.2.0, ap (λ (l : List DequeId). length l) c.requires.deques, length-map c.args.row.ends.items deque_of, length-map c.args.owners.now.items worker_deque) in
    let here = slice_get_read c.loop-end.owners.items (length c.loop-end.owners.items) c.len.result own refl inside c.index_mut.ensures.value in
    let at : slice_get c.args.owners.now.items (length ys) ≡ Some own =
    (inv.2.1 (length ys) own (ap (slice_get c.loop-end.owners.items) (sym count) ∙ here)).0 (omega (arith, pop_length c.loop-end.ends.items ys e popped)) in
    let same : deque_of e ≡ worker_deque own =
    same_Some _ _ (sym (slice_get-map deque_of c.args.row.ends.items (length ys) ∙ ap (option_map deque_of) at_e)
    ∙ (ap (λ l. slice_get l (length ys)) c.requires.deques ∙ (slice_get-map worker_deque c.args.owners.now.items (length ys) ∙ ap (option_map worker_deque) at))) in
    subst (λ d. IsPassOf d e.pass) same (c.requires.wired (length ys) e at_e).0

pub absorb-requires-clause-rule : goal.absorb-requires-clause-rule
absorb-requires-clause-rule c =
    let inv = c.loop-end.invariant in
    let ys = c.pop.new.self.items in
    let e = c.in-Some.end in
    let popped = c.in-Some.ensures.items in
    let at_e = pop_at c.args.row.ends.items c.loop-end.ends.items inv.0 ys e inv.1 popped in
    let own = c.index_mut.result.now in
    let count : c.len.result ≡ length ys = omega (arith, c.len.ensures, c.pop.new.self.ok.0) in
    let inside : c.len.result < length c.loop-end.owners.items = omega (arith, count, slice_get_within c.args.row.ends.items (length ys) e at_e, inv.2.0, ap (λ (l : List DequeId). length l) c.requires.deques, length-map c.args.row.ends.items deque_of, length-map c.args.owners.now.items worker_deque) in
    let here = slice_get_read c.loop-end.owners.items (length c.loop-end.owners.items) c.len.result own refl inside c.index_mut.ensures.value in
    let at : slice_get c.args.owners.now.items (length ys) ≡ Some own =
    (inv.2.1 (length ys) own (ap (slice_get c.loop-end.owners.items) (sym count) ∙ here)).0 (omega (arith, pop_length c.loop-end.ends.items ys e popped)) in
    gathers _ _ _ _ (c.requires.wholes (length ys) own at)

pub loop-end-preserved : goal.loop-end-preserved
loop-end-preserved c =
    let inv = c.loop-end.invariant in
    let ys = c.pop.new.self.items in
    let e = c.in-Some.end in
    let popped = c.in-Some.ensures.items in
    let at_e = pop_at c.args.row.ends.items c.loop-end.ends.items inv.0 ys e inv.1 popped in
    let own = c.index_mut.result.now in
    let own' = c.absorb.new.self in
    let old = c.args.owners.now.items in
    let now = c.loop-end.owners.items in
    let count : c.len.result ≡ length ys = omega (arith, c.len.ensures, c.pop.new.self.ok.0) in
    let inside : c.len.result < length now = omega (arith, count, slice_get_within c.args.row.ends.items (length ys) e at_e, inv.2.0, ap (λ (l : List DequeId). length l) c.requires.deques, length-map c.args.row.ends.items deque_of, length-map old worker_deque) in
    let here = slice_get_read now (length now) c.len.result own refl inside c.index_mut.ensures.value in
    let joined : IsJoined own e own' = (c.absorb.ensures.same.0.0, c.absorb.ensures.same.0.1, c.absorb.ensures.rule) in
    let before : AreJoined (length ys + 1) old c.args.row.ends.items now = subst (λ n. AreJoined n old c.args.row.ends.items now) (pop_length c.loop-end.ends.items ys e popped) inv.2 in (
      e ∷ inv.0,
      pop_done c.args.row.ends.items c.loop-end.ends.items inv.0 ys e inv.1 popped,
      subst (λ k. AreJoined (length ys) old c.args.row.ends.items (slice_set now k own')) (sym count)
          (joined_more (length ys) old c.args.row.ends.items now own own' e before (ap (slice_get now) (sym count) ∙ here) at_e joined),
    )

pub returns : goal.returns
returns c =
    let inv = c.loop-end.invariant in
    let none : length c.loop-end.ends.items ≡ 0 = omega (arith, c.in_default.ensures.cases.0, c.loop-end.ends.ok.0) in
    subst (λ n. AreJoined n c.args.owners.now.items c.args.row.ends.items c.loop-end.owners.items) none inv.2
