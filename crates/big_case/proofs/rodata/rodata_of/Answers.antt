use Rattle.std.proofs.Common.{◌≡◌, ◌/◌, arith}
use Rattle.big_case.specs.Tables.{rodata_bytes}
use Rattle.big_case.proofs.Tables.{table_more}
use Rattle.big_case.proofs.rodata.rodata_of.Goals as goal

pub loop-j-preserved : goal.loop-j-preserved
loop-j-preserved c =
    let more = table_more c.loop-j.j in
    cc c.in_ok-put_table.ensures

pub returns : goal.returns
unfolding rodata_bytes
returns c =
    let end : c.loop-j.j ≡ c.args.n / 4 = omega arith in
    rw (← end) c.loop-j.invariant
