use Rattle.std.proofs.Common.{ℕ, Bool, false, Contains, List, get_or, ap, subst, sym, ◌∙◌}
use Rattle.std.proofs.lemmas.List.{take_all}
use Rattle.std.proofs.lemmas.List.Elements.{Contains-get_or}
use Rattle.state_marks.specs.Inner.Seen.{AreNumbersOf}
use Rattle.state_marks.proofs.Numbers.{numbers_as, terms_next, returns_next, returns_past, among_shard, returning_in_shard, IsAmong, IsReturningAmong}
use Rattle.state_marks.proofs.seen.terms_in.Goals as goal
use Rattle.state_marks.proofs.seen.terms_in.Goals.{then-returned+in_ok-push-2, else-returned}

pub number-n-requires : goal.number-n-requires
number-n-requires g c =
    let xs : List (ℕ × Bool) = c.as_slice-k-items.result.now in
    let e : ℕ × Bool = get_or xs c.loop-k.k-index (0, false) in
    c.requires.stand.terminators e.0
    ((among_shard c.args.state.now.maps.terminators c.args.shard c.in_ok-terms.terms.items c.in_ok-terms.ensures e.0).0
    (e.1, subst (λ (ys : List (ℕ × Bool)). Contains ys e) c.as_slice-k-items.ensures.value (Contains-get_or xs c.loop-k.k-index (0, false) c.loop-k-test.true))).0

pub loop-k-preserved : goal.loop-k-preserved
loop-k-preserved g c =
    let number = g.C.Numbered.number c.args.code.now in
    let xs : List (ℕ × Bool) = c.as_slice-k-items.result.now in
    record {
      reached = subst (AreNumbersOf number (IsAmong _)) (sym (rw c.number-n.ensures at c.in_ok-push.ensures.items)) (terms_next number xs c.loop-k.k-index c.loop-k-test.true c.loop-k.reached.items c.loop-k.invariant.reached);
      returns = elim c.if-returned.branch [
        | then-returned+in_ok-push-2 w ↦ subst (AreNumbersOf number (IsReturningAmong _)) (sym (ap (λ returns. returns.items) w.returns-is ∙ (rw c.number-n.ensures at w.in_ok-push-2.ensures.items)))
            (returns_next number xs c.loop-k.k-index c.loop-k-test.true c.loop-k.returns.items w.if-returned.true c.loop-k.invariant.returns)
        | else-returned w ↦ subst (AreNumbersOf number (IsReturningAmong _)) (sym (ap (λ returns. returns.items) w.returns-is))
            (returns_past number xs c.loop-k.k-index c.loop-k-test.true c.loop-k.returns.items w.if-returned.false c.loop-k.invariant.returns)
      ];
    }

pub returns-clause-reached : goal.returns-clause-reached
returns-clause-reached g c =
    let number = g.C.Numbered.number c.args.code.now in
    numbers_as number _ _ c.loop-k.reached.items
    (subst (λ xs. AreNumbersOf number (IsAmong xs) c.loop-k.reached.items) (take_all c.loop-k.k-index c.as_slice-k-items.result.now c.loop-k-test.false ∙ c.as_slice-k-items.ensures.value) c.loop-k.invariant.reached)
    (among_shard c.args.state.now.maps.terminators c.args.shard c.in_ok-terms.terms.items c.in_ok-terms.ensures)

pub returns-clause-returns : goal.returns-clause-returns
returns-clause-returns g c =
    let number = g.C.Numbered.number c.args.code.now in
    numbers_as number _ _ c.loop-k.returns.items
    (subst (λ xs. AreNumbersOf number (IsReturningAmong xs) c.loop-k.returns.items) (take_all c.loop-k.k-index c.as_slice-k-items.result.now c.loop-k-test.false ∙ c.as_slice-k-items.ensures.value) c.loop-k.invariant.returns)
    (returning_in_shard c.args.state.now.maps.terminators c.args.shard c.in_ok-terms.terms.items c.in_ok-terms.ensures)
