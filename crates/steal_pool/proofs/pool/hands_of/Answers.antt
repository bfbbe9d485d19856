use Rattle.std.proofs.Common.{◌≡◌, ◌+◌, ◌∙◌, List, [], ◌∷◌, map, length, reverse, ap, subst, sym, arith}
use Rattle.std.specs.Option.{option_map}
use Rattle.std.proofs.lemmas.List.{length-map}
use Rattle.std.proofs.lemmas.Option.{slice_get_within, slice_get-map}
use Rattle.crossbeam_deque.specs.Handles.{worker_deque}
use Rattle.steal_pool.specs.declared.note.Note.{Note}
use Rattle.steal_pool.specs.Pool.{HandValue, AreFresh}
use Rattle.steal_pool.specs.inner.Ends.{IsWell}
use Rattle.steal_pool.specs.inner.Building.{AreEnds}
use Rattle.steal_pool.proofs.Making.{new_is_well, fresh_more}
use Rattle.steal_pool.proofs.Gathering.{pop_at, pop_done, pop_length}
use Rattle.steal_pool.proofs.pool.hands_of.Goals as goal

pub new-requires : goal.new-requires
new-requires c =
    let inv = c.loop-own.invariant in
    let own = c.in-Some.own in
    let row = c.in-Some-pop.row in
    let ys = c.pop.new.self.items in
    let zs = c.pop-in-Some.new.self.items in
    let deques = map worker_deque c.args.owners.items in
    let at_own = pop_at c.args.owners.items c.loop-own.owners.items inv.1.0 ys own inv.1.1 c.in-Some.ensures.items in
    let at_row = pop_at c.args.rows.items c.loop-own.rows.items inv.2.0 zs row inv.2.1 c.in-Some-pop.ensures.items in
    let as_long : length zs ≡ length ys = omega (arith, inv.0, pop_length c.loop-own.owners.items ys own c.in-Some.ensures.items, pop_length c.loop-own.rows.items zs row c.in-Some-pop.ensures.items) in
    let number : c.len-in-Some.result ≡ length ys = omega (arith, c.len-in-Some.ensures, c.pop.new.self.ok.0) in
    let known = c.requires.new (length ys) own at_own in
    let ends = subst (λ n. AreEnds n deques row.ends.items) as_long (c.requires.rows (length zs) row at_row) in
    subst (λ n. IsWell n own row.ends.items []) (sym number)
    (new_is_well (length ys) own deques row.ends.items known.0 (known.1 (slice_get_within c.args.owners.items (length ys) own at_own) ∙ sym (length-map c.args.owners.items worker_deque))
    (omega (arith, c.requires.few, length-map c.args.owners.items worker_deque)) (slice_get-map worker_deque c.args.owners.items (length ys) ∙ ap (option_map worker_deque) at_own) ends)

pub loop-own-preserved : goal.loop-own-preserved
loop-own-preserved c =
    let inv = c.loop-own.invariant in
    let own = c.in-Some.own in
    let row = c.in-Some-pop.row in
    let ys = c.pop.new.self.items in
    let zs = c.pop-in-Some.new.self.items in
    let deques = map worker_deque c.args.owners.items in
    let at_own = pop_at c.args.owners.items c.loop-own.owners.items inv.1.0 ys own inv.1.1 c.in-Some.ensures.items in
    let at_row = pop_at c.args.rows.items c.loop-own.rows.items inv.2.0 zs row inv.2.1 c.in-Some-pop.ensures.items in
    let as_long : length zs ≡ length ys = omega (arith, inv.0, pop_length c.loop-own.owners.items ys own c.in-Some.ensures.items, pop_length c.loop-own.rows.items zs row c.in-Some-pop.ensures.items) in
    let number : c.len-in-Some.result ≡ length ys = omega (arith, c.len-in-Some.ensures, c.pop.new.self.ok.0) in
    let known = c.requires.new (length ys) own at_own in
    let made = c.new.ensures in
    let before : AreFresh (record { deques = deques }) (length ys + 1) (reverse c.loop-own.hands.items) =
    subst (λ n. AreFresh (record { deques = deques }) n (reverse c.loop-own.hands.items)) (pop_length c.loop-own.owners.items ys own c.in-Some.ensures.items) inv.3 in (
      as_long,
      (own ∷ inv.1.0, pop_done c.args.owners.items c.loop-own.owners.items inv.1.0 ys own inv.1.1 c.in-Some.ensures.items),
      (row ∷ inv.2.0, pop_done c.args.rows.items c.loop-own.rows.items inv.2.0 zs row inv.2.1 c.in-Some-pop.ensures.items),
      subst (λ (l : List HandValue). AreFresh (record { deques = deques }) (length ys) (reverse l)) (sym c.in_ok-push.ensures.items)
          (fresh_more deques (length ys) c.new.result c.loop-own.hands.items
          (made.deques ∙ (c.requires.rows (length zs) row at_row).0, made.number ∙ number, made.put ∙ ap (λ (v : Note). v.put) known.0.notes, made.taken) before),
    )
