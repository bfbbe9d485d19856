use Rattle.rv_operations.proofs.HighHalves.{high-is}
use Rattle.rv_operations.proofs.multiply.high_half.Goals as goal

pub returns : goal.returns
returns c =
    high-is c.args.x c.args.y c.from.result c.cast_unsigned.result c.ranges.x c.ranges.y c.requires c.from.ensures c.cast_unsigned.ensures
