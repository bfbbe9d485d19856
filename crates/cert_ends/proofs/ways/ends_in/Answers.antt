use Rattle.cert_ends.specs.Inner.{IsReturnUnder}
use Rattle.cert_ends.proofs.LeadsOnward.{ends_in, ends_back}
use Rattle.cert_ends.proofs.ListedEnds.{terminator_stands}
use Rattle.cert_ends.proofs.ways.ends_in.Goals as goal

pub is_return_under-requires-clause-stands : goal.is_return_under-requires-clause-stands
is_return_under-requires-clause-stands g c κs within = terminator_stands (g.C.Chains.map c.args.code.now) c.term.result c.term.ensures.term.ends

pub returns : goal.returns
returns g c =
    let map = g.C.Chains.map c.args.code.now in
    let among = IsReturnUnder c.args.returns.now.lines.now c.args.below in
    let says = c.is_return_under.ensures in (
      λ t. ends_in map among c.args.a c.term.result c.term.ensures.term (says.0 t),
      λ h. says.1 (ends_back map among c.args.a c.term.result c.term.ensures.term h),
    )
