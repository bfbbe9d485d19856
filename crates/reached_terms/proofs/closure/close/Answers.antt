use Rattle.std.proofs.Common.{◌≡◌, ◌<◌, length, get_or, ◌∙◌, arith}
use Rattle.std.proofs.lemmas.List.{get_or_default}
use Rattle.reached_terms.proofs.Closing.{closing-on, closing-ends}
use Rattle.reached_terms.proofs.closure.close.Goals as goal

pub loop-i-preserved : goal.loop-i-preserved
loop-i-preserved g c =
    let map = g.C.Chains.map c.args.code.now in
    let number = g.C.Numbered.number c.args.code.now in
    let order = c.loop-i.marks.order.items in
    let i = c.loop-i.i in
    let k = c.index-k.result.now in
    let inside : i < length order = omega arith in
    let is : k ≡ get_or order i 0 = c.index-k.ensures ∙ get_or_default order i k 0 inside in
    closing-on map number c.args.marks.now i k c.loop-i.marks c.settle.new.marks c.loop-i.invariant inside is
    c.in_ok-settle.ensures.kept c.in_ok-settle.ensures.grow c.in_ok-settle.ensures.visited c.in_ok-settle.ensures.seeded

pub returns : goal.returns
returns g c =
    closing-ends (g.C.Chains.map c.args.code.now) (g.C.Numbered.number c.args.code.now) c.args.marks.now c.loop-i.i c.loop-i.marks (omega arith) c.loop-i.invariant
