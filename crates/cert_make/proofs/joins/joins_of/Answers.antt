use Rattle.std.proofs.Common.{◌≡◌, length, ap, arith}
use Rattle.cert_make.proofs.Falling.{none_fallen}
use Rattle.cert_make.proofs.joins.joins_of.Goals as goal

pub loop-i-init : goal.loop-i-init
loop-i-init g c = record {
  shorts = none_fallen (g.C.Chains.map c.args.code.now) c.args.lines.now c.args.runs.now 2 c.in_ok-shorts.shorts.items c.in_ok-shorts.ensures.many c.in_ok-shorts.ensures.empty;
  longs = none_fallen (g.C.Chains.map c.args.code.now) c.args.lines.now c.args.runs.now 4 c.in_ok-longs.longs.items c.in_ok-longs.ensures.many c.in_ok-longs.ensures.empty;
  many = ap length c.new-joins.ensures.items;
  each = λ j d lt. absurd (omega arith);
}

pub returns : goal.returns
returns g c =
    let last : c.loop-i.i ≡ length c.args.lines.now = omega arith in
    record {
      long = omega (arith, c.loop-i.invariant.many, last);
      each = λ j d lt. c.loop-i.invariant.each j d (omega (arith, lt, last));
    }
