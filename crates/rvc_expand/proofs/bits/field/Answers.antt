-- A mask of k ones keeps the remainder by 2 ^ k.
use Rattle.std.proofs.Common.{◌<◌, ◌+◌, ◌-◌, arith}
use Rattle.std.proofs.lemmas.Nat.{one_shl, and_mask}
use Rattle.rvc_expand.proofs.bits.field.Goals as goal

pub returns : goal.returns
returns c =
    let width_fits : c.args.high + 1 - c.args.low < 32 = omega arith in
    rw (one_shl (c.args.high + 1 - c.args.low) 32 width_fits) (and_mask _ _)
