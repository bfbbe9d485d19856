use Rattle.std.proofs.Common.{List, get_or, rules, subst}
use Rattle.std.specs.Prelude.{MatchOption}
use Rattle.cert_text.specs.declared.lines.ReturnLine.{ReturnLine}
use Rattle.cert_ends.proofs.Placed.{no_return}
use Rattle.cert_make.specs.Inner.Returns.{HasNoReason, IsSettledFor}
use Rattle.cert_make.proofs.ReturnSteps.{one_next, all_next_of}
use Rattle.cert_make.proofs.returns.step.Goals as goal

pub loop-i-preserved : goal.loop-i-preserved
loop-i-preserved g c =
    let code = g.C.Chains.map c.args.code.now in
    let k = (get_or c.args.lines.now c.loop-i.i no_return).at in
    one_next code c.args.lines.now c.loop-i.next.items c.push.new.self.items c.loop-i.i c.in_ok-settled.settled c.loop-i-test.true c.loop-i.invariant
    (subst (λ (ls : List ReturnLine). MatchOption c.in_ok-settled.settled (HasNoReason code ls k) (IsSettledFor code ls k)) c.in_ok-returns.ensures.lines c.in_ok-settled.ensures) (search rules)

pub returns : goal.returns
returns g c = all_next_of (g.C.Chains.map c.args.code.now) c.args.lines.now c.loop-i.next.items c.loop-i.i c.loop-i-test.false c.loop-i.invariant
