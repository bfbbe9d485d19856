use Rattle.std.proofs.Common.{◌≡◌, length, arith}
use Rattle.cert_make.proofs.runs.runs_of.Goals as goal

pub returns : goal.returns
returns g c =
    let last : c.loop-i.i ≡ length c.args.lines.now = omega arith in
    record {
      as_many = omega (arith, c.loop-i.invariant.as_many, last);
      each = λ j d lt. c.loop-i.invariant.each j d (omega (arith, lt, last));
    }
