use Rattle.std.proofs.Common.{◌+◌, get_or, set, sym, ap, subst, arith}
use Rattle.std.proofs.lemmas.List.{get_or_default}
use Rattle.cert_text.specs.declared.lines.ReturnLine.{ReturnLine}
use Rattle.cert_ends.proofs.Few.{no_more}
use Rattle.cert_ends.proofs.Numbers.{AreKept, more_kept, numbered}
use Rattle.cert_ends.proofs.Placed.{no_return}
use Rattle.cert_ends.proofs.numbered_returns.NumberedReturns.new.Goals as goal

pub overflow_cast-i : goal.overflow_cast-i
overflow_cast-i g c =
    omega (arith, c.loop-i-test.true, no_more (g.C.Chains.map c.args.code.now) (g.C.Numbered.number c.args.code.now) c.numbers.result (λ (l : ReturnLine). l.at) c.numbers.ensures.numbers c.numbers.ensures.rise c.args.lines.now c.requires.rise c.requires.stand)

pub overflow_add-i : goal.overflow_add-i
overflow_add-i g c =
    omega (arith, c.loop-i-test.true, no_more (g.C.Chains.map c.args.code.now) (g.C.Numbered.number c.args.code.now) c.numbers.result (λ (l : ReturnLine). l.at) c.numbers.ensures.numbers c.numbers.ensures.rise c.args.lines.now c.requires.rise c.requires.stand)

pub loop-i-preserved : goal.loop-i-preserved
loop-i-preserved g c =
    let map = g.C.Chains.map c.args.code.now in
    let number = g.C.Numbered.number c.args.code.now in
    let lines = c.args.lines.now in
    subst (λ n. AreKept map number lines (c.loop-i.i + 1) (set c.loop-i.places.items n (c.loop-i.i + 1))) (sym c.number.ensures)
    (more_kept map number lines c.requires.rise c.requires.stand c.loop-i.i c.loop-i.places.items (get_or lines c.loop-i.i no_return).at c.loop-i-test.true
    (λ d. ap (λ (l : ReturnLine). l.at) (get_or_default lines c.loop-i.i d no_return c.loop-i-test.true)) c.loop-i.invariant)

pub returns-clause-numbered : goal.returns-clause-numbered
returns-clause-numbered g c =
    numbered (g.C.Chains.map c.args.code.now) (g.C.Numbered.number c.args.code.now) _ c.loop-i.i c.requires.rise
    (omega (arith, c.loop-i-test.false, c.loop-i.auto.i-end)) c.loop-i.invariant
