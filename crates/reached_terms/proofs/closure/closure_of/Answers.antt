use Rattle.std.proofs.Common.{arith}
use Rattle.reached_terms.proofs.Closing.{seed-on, seeds-taken}
use Rattle.reached_terms.proofs.closure.closure_of.Goals as goal

pub loop-seed-init : goal.loop-seed-init
loop-seed-init g c =
    let map = g.C.Chains.map c.args.code.now in
    let number = g.C.Numbered.number c.args.code.now in
    let m = c.in_ok-marks.ensures in
    record {
      kept = m.kept map number c.numbers.ensures.lawful c.numbers.ensures.numbers;
      right = m.right map number c.args.seeds.now;
      told = λ n. m.told map number n 0;
      none = m.none;
      from = λ s there. absurd (omega (arith, there.1));
    }

pub loop-seed-preserved : goal.loop-seed-preserved
loop-seed-preserved g c =
    seed-on (g.C.Chains.map c.args.code.now) (g.C.Numbered.number c.args.code.now) c.args.seeds.now c.loop-seed.seed-index c.loop-seed.marks c.arrive.new.self c.in_ok-arrive.field-0
    c.loop-seed-test.true c.loop-seed.invariant c.in_ok-arrive.ensures.step c.in_ok-arrive.ensures.there c.in_ok-arrive.ensures.sent c.in_ok-arrive.ensures.untold

pub returns : goal.returns
returns g c =
    let map = g.C.Chains.map c.args.code.now in
    let number = g.C.Numbered.number c.args.code.now in
    let seeds = c.args.seeds.now in
    c.in_ok-close.ensures seeds (seeds-taken map number seeds c.loop-seed.seed-index c.loop-seed.marks (omega arith) c.loop-seed.invariant)
