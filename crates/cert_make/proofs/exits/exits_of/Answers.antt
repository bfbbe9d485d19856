use Rattle.std.proofs.Common.{◌≡◌, length, get_or, refl, sym, arith}
use Rattle.cert_make.proofs.Exiting.{next_exits, all_exits}
use Rattle.cert_make.proofs.exits.exits_of.Goals as goal

pub loop-i-preserved : goal.loop-i-preserved
loop-i-preserved g c =
    next_exits (g.C.Chains.map c.args.code.now) c.args.places.now.addresses.now c.args.terms.now c.loop-i.i (get_or c.args.terms.now c.loop-i.i 0) c.find_targets.new.targets.items _ c.loop-i.exits.items c.add_exits.new.exits.items
    refl c.in_ok-find_targets.ensures c.loop-i.invariant (rw c.as_slice.ensures.value at c.in_ok-add_exits.ensures)

pub returns : goal.returns
returns g c =
    let last : c.loop-i.i ≡ length c.args.terms.now = omega arith in
    all_exits (g.C.Chains.map c.args.code.now) c.args.places.now.addresses.now c.args.terms.now c.loop-i.i c.loop-i.exits.items (sym last) c.loop-i.invariant

pub find_targets-requires-clause-tell : goal.find_targets-requires-clause-tell
find_targets-requires-clause-tell g c κs within = c.requires.tell c.loop-i.i 0 c.loop-i-test.true
