use Rattle.std.proofs.Common.{◌≡◌, ℕ, ◌<◌, ◌≤◌, ◌+◌, ◌-◌, List, length, get_or, set, sum, vec_len, All, sym, subst, ap, ◌∙◌, arith}
use Rattle.std.proofs.lemmas.List.Elements.{All-get_or, Contains-get_or}
use Rattle.mask_flow.specs.declared.ways.Way.{Way}
use Rattle.mask_flow.specs.Reaches.{IsWithin}
use Rattle.mask_flow.specs.Inner.{passed, KeepsSpread}
use Rattle.mask_flow.proofs.Passing.{Fit, keeps_step, visited_more}
use Rattle.mask_flow.proofs.Sums.{fit_of}
use Rattle.mask_flow.proofs.fixed_point.visit.Goals as goal
use Rattle.mask_flow.proofs.fixed_point.visit.Goals.{then-pass+in_ok-add, else-pass}

-- a way of the list was tried
tried : (stops : List ℕ) (ways : List Way) (masks new : List ℕ) (n at : ℕ) (d : Way) → Fit stops → length masks ≡ n → All (IsWithin n) ways → at < length ways → new ≡ set masks (get_or ways at d).from (passed stops masks (get_or ways at d)) → KeepsSpread stops ways masks new
tried stops ways masks new n at d fit same within inside e =
    subst (KeepsSpread stops ways masks) (sym e)
    (keeps_step stops ways masks (get_or ways at d) fit (All-get_or (IsWithin (length masks)) ways at d inside (subst (λ n. All (IsWithin n) ways) (sym same) within)) (Contains-get_or ways at d inside))

pub returns-in_err-add-clause-keeps : goal.returns-in_err-add-clause-keeps
returns-in_err-add-clause-keeps c =
    let at : c.loop-number.number - 1 < length c.args.ways.now = omega (arith, c.loop-number-test.true, c.loop-number.invariant.0) in
    let keeps : KeepsSpread c.args.stops.now c.args.ways.now c.loop-number.masks c.pass.new.masks = tried _ _ _ _ _ _ _ (fit_of c.args.stops.now c.type_inv.stops) c.loop-number.auto.masks c.requires.within at c.pass.ensures.new in
    λ starts s. keeps starts (c.loop-number.invariant.2.keeps starts s)

pub loop-number-preserved : goal.loop-number-preserved
loop-number-preserved c =
    let some : 0 < c.loop-number.number = c.loop-number-test.true in
    let at : c.loop-number.number - 1 < length c.args.ways.now = omega (arith, c.loop-number.invariant.0) in
    let keeps : KeepsSpread c.args.stops.now c.args.ways.now c.loop-number.masks c.pass.new.masks = tried _ _ _ _ _ _ _ (fit_of c.args.stops.now c.type_inv.stops) c.loop-number.auto.masks c.requires.within at c.pass.ensures.new in
    let lesser : c.index-number-in-loop-number.result.now ≤ c.loop-number.number - 1 = subst (λ k. k ≤ c.loop-number.number - 1) (sym c.index-number-in-loop-number.ensures) (c.requires.linked.lesser (c.loop-number.number - 1) _ at) in
    elim c.if-pass.branch [
      | then-pass+in_ok-add w ↦
          let rises = c.pass.ensures.more w.if-pass.true in
          let one = w.add.ensures.one in (
            omega arith,
            ap (λ t. length t.waits.items) w.todo-is ∙ (w.add.ensures.as_many ∙ c.loop-number.invariant.1),
            visited_more _ _ _ _ _ _ _ _ c.loop-number.invariant.2 keeps (subst (λ t. vec_len t.nodes + sum c.loop-number.masks ≤ vec_len c.loop-number.todo.nodes + sum c.pass.new.masks) (sym w.todo-is) (omega arith)),
          )
      | else-pass w ↦
          let grows = c.pass.ensures.grows in (
            omega arith,
            ap (λ t. length t.waits.items) w.todo-is ∙ c.loop-number.invariant.1,
            visited_more _ _ _ _ _ _ _ _ c.loop-number.invariant.2 keeps (subst (λ t. vec_len t.nodes + sum c.loop-number.masks ≤ vec_len c.loop-number.todo.nodes + sum c.pass.new.masks) (sym w.todo-is) (omega arith)),
          )
    ]
