use Rattle.std.proofs.Common.{get_or}
use Rattle.std.proofs.lemmas.List.Elements.{All-more}
use Rattle.cert_ends.specs.Inner.{ReturnIsListed}
use Rattle.cert_ends.proofs.ListedEnds.{end_stands, return_missed, none_missed}
use Rattle.cert_ends.proofs.OneByOne.{refuted}
use Rattle.cert_ends.proofs.missing.returns_are_closed.Goals as goal

pub is_listed_if_it_returns-requires-clause-stands : goal.is_listed_if_it_returns-requires-clause-stands
is_listed_if_it_returns-requires-clause-stands g c =
    λ κs within. end_stands (g.C.Chains.map c.args.code.now) c.args.part.now.leads c.args.ends.now c.requires.ends c.loop-k.k-index 0 c.loop-k-test.true

pub returns-then-not-branch : goal.returns-then-not-branch
returns-then-not-branch g c =
    let map = g.C.Chains.map c.args.code.now in
    let returns = c.args.returns.now.lines.now in
    let k = get_or c.args.ends.now c.loop-k.k-index 0 in
    return_missed map c.args.part.now c.args.ends.now c.requires.ends returns c.requires.returns c.loop-k.k-index c.loop-k-test.true
    (refuted (ReturnIsListed map returns k) c.in_ok-is_listed_if_it_returns.field-0 c.if-not-branch.true c.in_ok-is_listed_if_it_returns.ensures)

pub loop-k-preserved : goal.loop-k-preserved
loop-k-preserved g c =
    let map = g.C.Chains.map c.args.code.now in
    All-more (ReturnIsListed map c.args.returns.now.lines.now) c.args.ends.now c.loop-k.k-index 0 c.loop-k-test.true c.loop-k.invariant
    (c.in_ok-is_listed_if_it_returns.ensures.0 c.if-not-branch.false)

pub returns : goal.returns
returns g c =
    none_missed (g.C.Chains.map c.args.code.now) c.args.part.now c.args.ends.now c.requires.ends c.args.returns.now.lines.now c.requires.returns
    c.loop-k.k-index c.loop-k-test.false c.loop-k.invariant
