use Rattle.std.proofs.Common.{◌<◌, ◌≤◌, sym, subst, refl, arith}
use Rattle.cert_text.specs.declared.lines.ReturnLine.{ReturnLine}
use Rattle.cert_make.specs.Inner.Returns.{IsSettledFor}
use Rattle.cert_make.proofs.Settling.{both_alone, both_nearer, way_first}
use Rattle.cert_make.proofs.returns.by_call.Goals as goal

pub returns-then-way-rank : goal.returns-then-way-rank
returns-then-way-rank g c =
    let map = g.C.Chains.map c.args.code.now in
    let lines = c.args.returns.now.lines.now in
    let low : c.in-Some.way.rank ≤ c.args.rank = omega arith in
    subst (λ (l : ReturnLine). IsSettledFor map lines c.args.k l) (sym c.line_of.ensures)
    (refl, way_first map lines c.args.k c.in-Some.way.rank c.in-Some.way.to c.args.rank c.args.successors.now c.requires.successors c.requires.stays c.requires.both c.in-Some.ensures low)

pub returns-else-way-rank : goal.returns-else-way-rank
returns-else-way-rank g c =
    let map = g.C.Chains.map c.args.code.now in
    let lines = c.args.returns.now.lines.now in
    let lower : c.args.rank < c.in-Some.way.rank = omega arith in
    subst (λ (l : ReturnLine). IsSettledFor map lines c.args.k l) (sym c.line_of-else-way-rank.ensures)
    (refl, both_nearer map lines c.args.k c.args.rank c.in-Some.way.rank c.in-Some.way.to c.args.successors.now c.requires.successors c.requires.stays c.requires.both c.in-Some.ensures lower)

pub returns-in-None : goal.returns-in-None
returns-in-None g c =
    let map = g.C.Chains.map c.args.code.now in
    let lines = c.args.returns.now.lines.now in
    subst (λ (l : ReturnLine). IsSettledFor map lines c.args.k l) (sym c.line_of-in-None.ensures)
    (refl, both_alone map lines c.args.k c.args.rank c.args.successors.now c.requires.successors c.requires.stays c.requires.both c.in-None.ensures)
