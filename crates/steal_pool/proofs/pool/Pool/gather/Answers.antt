use Rattle.std.proofs.Common.{◌≡◌, ◌++◌, List, length, subst, sym, arith}
use Rattle.std.specs.List.{flat_map}
use Rattle.core_state.specs.declared.answer.Name.{Name}
use Rattle.steal_pool.specs.Often.{EachAsOften}
use Rattle.steal_pool.specs.Pool.{HandValue, IsLeftInOrder}
use Rattle.steal_pool.proofs.Gathering.{gathering_begins, gathering_more, row_deques, row_wired, all_whole, gathered_all, as_often, in_order}
use Rattle.steal_pool.proofs.pool.Pool.gather.Goals as goal

pub loop-row-init : goal.loop-row-init
loop-row-init c = gathering_begins c.args.self c.args.hands.items _ _ c.requires.hands c.in_ok-parts.ensures

pub absorb_all-requires-clause-deques : goal.absorb_all-requires-clause-deques
absorb_all-requires-clause-deques c = row_deques _ _ _ _ _ _ _ c.loop-row.owners.items c.loop-row.invariant c.in-Some.ensures.items

pub absorb_all-requires-clause-wired : goal.absorb_all-requires-clause-wired
absorb_all-requires-clause-wired c = row_wired _ _ _ _ _ _ _ c.loop-row.owners.items c.loop-row.invariant c.in-Some.ensures.items

pub absorb_all-requires-clause-wholes : goal.absorb_all-requires-clause-wholes
absorb_all-requires-clause-wholes c = all_whole _ _ _ _ _ _ _ c.loop-row.owners.items c.loop-row.invariant c.in-Some.ensures.items

pub loop-row-preserved : goal.loop-row-preserved
loop-row-preserved c = gathering_more _ _ _ _ _ _ _ c.absorb_all.new.owners.items c.loop-row.invariant c.in-Some.ensures.items c.absorb_all.ensures

pub drain_all-requires : goal.drain_all-requires
drain_all-requires c =
    let none : length c.loop-row.rows.items ≡ 0 = omega (arith, c.in_default.ensures.cases.0, c.loop-row.rows.ok.0) in
    record { all = gathered_all _ _ _ _ _ c.loop-row.invariant none }

pub returns-clause-as_often : goal.returns-clause-as_often
returns-clause-as_often c =
    let none : length c.loop-row.rows.items ≡ 0 = omega (arith, c.in_default.ensures.cases.0, c.loop-row.rows.ok.0) in
    subst (λ (left : List Name). EachAsOften (flat_map (λ (hand : HandValue). hand.put) c.args.hands.items) (flat_map (λ (hand : HandValue). hand.taken) c.args.hands.items ++ left)) (sym c.from_vec.ensures)
    (as_often _ _ _ _ _ _ c.loop-row.invariant none c.in_ok-left.ensures)

pub returns-clause-order : goal.returns-clause-order
returns-clause-order c =
    let none : length c.loop-row.rows.items ≡ 0 = omega (arith, c.in_default.ensures.cases.0, c.loop-row.rows.ok.0) in
    subst (λ (left : List Name). IsLeftInOrder c.args.hands.items left) (sym c.from_vec.ensures) (in_order _ _ _ _ _ _ c.loop-row.invariant none c.in_ok-left.ensures)
