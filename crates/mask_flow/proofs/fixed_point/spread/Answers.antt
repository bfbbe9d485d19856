use Rattle.std.proofs.Common.{All, IsTrue, sym, subst, arith}
use Rattle.mask_flow.specs.Inner.{IsSpread, IsSettled}
use Rattle.mask_flow.proofs.Sums.{sum_bounded, fit_of}
use Rattle.mask_flow.proofs.Passing.{spread_none, have_all}
use Rattle.mask_flow.proofs.fixed_point.spread.Goals as goal

pub loop-smaller : goal.loop-smaller
loop-smaller c = omega (arith, sum_bounded c.look.new.masks (fit_of c.look.new.masks c.type_inv.masks), c.look.ensures.more c.loop-test.true, c.look.auto.masks, c.loop.auto.masks)

pub returns : goal.returns
returns c =
    let no : ¬ IsTrue c.look.result = λ yes. let f = c.loop-test.false in cc in
    let spread : IsSpread c.args.masks.now c.args.stops.now c.args.ways.now c.look.new.masks = c.look.ensures.keeps _ (c.loop.invariant _ (spread_none c.args.masks.now c.args.stops.now c.args.ways.now)) in
    let settled : All (IsSettled c.args.stops.now c.look.new.masks) c.args.ways.now = subst (λ m. All (IsSettled c.args.stops.now m) c.args.ways.now) (sym (c.look.ensures.same no)) (c.look.ensures.settled no) in
    have_all c.args.masks.now c.args.stops.now c.args.ways.now c.look.new.masks (fit_of c.args.stops.now c.type_inv.stops) spread c.requires.within settled
