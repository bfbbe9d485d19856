use Rattle.std.proofs.Common.{arith}
use Rattle.graph_report.proofs.Digits.{two_digits}
use Rattle.graph_report.proofs.field.byte_digits.Goals as goal

pub returns : goal.returns
returns c = two_digits c.args.byte (omega arith)
