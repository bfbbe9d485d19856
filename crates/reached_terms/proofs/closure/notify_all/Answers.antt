use Rattle.std.proofs.Common.{refl, arith}
use Rattle.reached_terms.specs.declared.marks.Marks.{Marks}
use Rattle.reached_terms.proofs.Telling.{popped-grow, popped-kept, popped-number, popped-right, popped-told, all-on, none-kept, none-right, none-told}
use Rattle.reached_terms.proofs.closure.notify_all.Goals as goal

pub notify-requires-clause-kept : goal.notify-requires-clause-kept
notify-requires-clause-kept g c κs within =
    popped-kept (g.C.Chains.map c.args.code.now) (g.C.Numbered.number c.args.code.now) c.in-Some.n c.loop-n.marks _ c.loop-n.invariant.kept refl refl refl refl refl refl c.in-Some.ensures.items

pub notify-requires-clause-number : goal.notify-requires-clause-number
notify-requires-clause-number g c κs within =
    let now = c.loop-n.marks in
    let popped : Marks = record { reached = now.reached; returns = now.returns; waiting = now.waiting; order = now.order; ways = now.ways; untold = c.pop.new.self; sent = now.sent } in
    popped-number (g.C.Chains.map c.args.code.now) (g.C.Numbered.number c.args.code.now) c.in-Some.n now popped c.loop-n.invariant.kept refl refl refl refl refl refl c.in-Some.ensures.items

pub loop-n-preserved : goal.loop-n-preserved
loop-n-preserved g c =
    let map = g.C.Chains.map c.args.code.now in
    let number = g.C.Numbered.number c.args.code.now in
    let now = c.loop-n.marks in
    let n = c.in-Some.n in
    let popped : Marks = record { reached = now.reached; returns = now.returns; waiting = now.waiting; order = now.order; ways = now.ways; untold = c.pop.new.self; sent = now.sent } in
    let kept = c.loop-n.invariant.kept in
    all-on map number c.args.marks.now now n popped c.notify.new.self c.loop-n.invariant
    (popped-grow map number n now popped kept refl refl refl refl refl refl c.in-Some.ensures.items)
    (popped-right map number n now popped kept refl refl refl refl refl refl c.in-Some.ensures.items)
    (popped-told map number n now popped kept refl refl refl refl refl refl c.in-Some.ensures.items)
    c.in_ok-notify.ensures.kept c.in_ok-notify.ensures.grow c.in_ok-notify.ensures.right c.in_ok-notify.ensures.told

pub returns-clause-kept : goal.returns-clause-kept
returns-clause-kept g c =
    none-kept (g.C.Chains.map c.args.code.now) (g.C.Numbered.number c.args.code.now) c.loop-n.marks _ refl refl refl refl refl
    (omega (arith, c.in_default.ensures.cases.0)) (omega (arith, c.in_default.ensures.cases.1)) refl c.loop-n.invariant.kept

pub returns-clause-right : goal.returns-clause-right
returns-clause-right g c seeds right =
    none-right (g.C.Chains.map c.args.code.now) (g.C.Numbered.number c.args.code.now) c.loop-n.marks _ refl refl refl refl refl
    (omega (arith, c.in_default.ensures.cases.0)) (omega (arith, c.in_default.ensures.cases.1)) seeds (c.loop-n.invariant.right seeds right)

pub returns-clause-told : goal.returns-clause-told
returns-clause-told g c told n =
    none-told (g.C.Chains.map c.args.code.now) (g.C.Numbered.number c.args.code.now) c.loop-n.marks _ refl refl refl refl refl
    (omega (arith, c.in_default.ensures.cases.0)) (omega (arith, c.in_default.ensures.cases.1)) n (c.loop-n.invariant.told told n)
