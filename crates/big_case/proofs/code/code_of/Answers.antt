use Rattle.std.proofs.Common.{◌≡◌, arith}
use Rattle.big_case.proofs.Slots.{function_more, code_all}
use Rattle.big_case.proofs.code.code_of.Goals as goal

pub loop-i-preserved : goal.loop-i-preserved
loop-i-preserved c =
    let more = function_more c.args.n c.loop-i.i in
    cc c.in_ok-put_function.ensures

pub returns : goal.returns
returns c =
    let all = code_all c.args.n in
    let end : c.loop-i.i ≡ c.args.n = omega arith in
    cc (c.in_ok-put_slot.ensures, c.in_ok-put_slot-2.ensures)
