use Rattle.std.proofs.Common.{Contains, get_or, subst, sym, ◌∙◌}
use Rattle.std.proofs.lemmas.List.{take_all}
use Rattle.std.proofs.lemmas.List.Elements.{Contains-get_or}
use Rattle.state_marks.specs.Inner.Seen.{AreNumbersOf}
use Rattle.state_marks.proofs.Numbers.{numbers_as, starts_next}
use Rattle.state_marks.proofs.seen.starts_in.Goals as goal

pub number-requires : goal.number-requires
number-requires g c =
    let xs = c.as_slice-a-items.result.now in
    let a = get_or xs c.loop-a.a-index 0 in
    c.requires.stand.starts a ((c.in_ok-starts.ensures a).0 (subst (λ ys. Contains ys a) c.as_slice-a-items.ensures.value (Contains-get_or xs c.loop-a.a-index 0 c.loop-a-test.true))).0

pub loop-a-preserved : goal.loop-a-preserved
loop-a-preserved g c =
    let number = g.C.Numbered.number c.args.code.now in
    subst (AreNumbersOf number (Contains _)) (sym (rw c.number.ensures at c.in_ok-push.ensures.items))
    (starts_next number c.as_slice-a-items.result.now c.loop-a.a-index c.loop-a-test.true c.loop-a.numbers.items c.loop-a.invariant)

pub returns : goal.returns
returns g c =
    let number = g.C.Numbered.number c.args.code.now in
    numbers_as number _ _ c.loop-a.numbers.items
    (subst (λ xs. AreNumbersOf number (Contains xs) c.loop-a.numbers.items) (take_all c.loop-a.a-index c.as_slice-a-items.result.now c.loop-a-test.false ∙ c.as_slice-a-items.ensures.value) c.loop-a.invariant)
    c.in_ok-starts.ensures
