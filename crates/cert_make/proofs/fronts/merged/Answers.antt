use Rattle.std.proofs.Common.{arith}
use Rattle.cert_make.proofs.Sources.{front_moved, left_alone, right_alone}
use Rattle.cert_make.proofs.fronts.merged.Goals as goal

pub returns-then-is_empty : goal.returns-then-is_empty
returns-then-is_empty c = left_alone c.args.one.items c.args.other.items (search arith)

pub returns-then-is_empty-2 : goal.returns-then-is_empty-2
returns-then-is_empty-2 c = right_alone c.args.one.items c.args.other.items (search arith)

pub returns : goal.returns
returns c = front_moved c.args.one.items c.args.other.items c.in_ok-all.all.items c.as_slice.result.now c.in_ok-front.front.items c.in_ok-all.ensures c.as_slice.ensures.value c.in_ok-front.ensures
