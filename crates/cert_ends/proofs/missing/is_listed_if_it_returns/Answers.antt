use Rattle.std.proofs.Common.{◌∙◌, Option, sym, subst}
use Rattle.std.specs.Prelude.{Some}
use Rattle.cfg_model.specs.declared.flow.Flow.{Flow}
use Rattle.cfg_model.specs.Program.Successors.{LeavesFunction}
use Rattle.cert_text.specs.declared.lines.ReturnWhy.TheVariants.{Itself, CallBoth}
use Rattle.cert_laws.specs.Lines.{IsReturn}
use Rattle.cert_laws.specs.Ways.{ReturnsByBoth}
use Rattle.cert_ends.proofs.OneByOne.{refuted}
use Rattle.cert_ends.proofs.ReasonsFound.{is_missed, by_successors}
use Rattle.cert_ends.proofs.missing.is_listed_if_it_returns.Goals as goal
use Rattle.cert_ends.proofs.missing.is_listed_if_it_returns.Goals.{then-returns_by_itself-via-then-returns_by_itself, then-returns_by_itself-via-else-returns_by_itself+then-returns_by_both}

pub returns-then-returns_by_itself : goal.returns-then-returns_by_itself
returns-then-returns_by_itself g c =
    let map = g.C.Chains.map c.args.code.now in
    let returns = c.args.returns.now.lines.now in
    let missed = is_missed map returns c.args.k (refuted (IsReturn returns c.args.k) c.has.result c.if-has.false c.has.ensures) in
    elim c.then-returns_by_itself.branch [
      | then-returns_by_itself-via-then-returns_by_itself w ↦
          missed Itself (subst (λ (o : Option Flow). LeavesFunction o) (sym c.flow-flow.ensures.flow) (c.returns_by_itself.ensures.0 w.if-returns_by_itself.true))
      | then-returns_by_itself-via-else-returns_by_itself+then-returns_by_both w ↦
          missed CallBoth (w.returns_by_both.ensures.0 w.if-returns_by_both.true)
    ]

pub returns : goal.returns
returns g c =
    let map = g.C.Chains.map c.args.code.now in
    let returns = c.args.returns.now.lines.now in
    by_successors map returns c.args.k (refuted (IsReturn returns c.args.k) c.has.result c.if-has.false c.has.ensures)
    c.as_slice.result.now (c.as_slice.ensures.value ∙ c.in_ok-find_successors.ensures)
    (λ h. refuted (LeavesFunction (Some c.flow-flow.result)) c.returns_by_itself.result c.if-returns_by_itself.false c.returns_by_itself.ensures (subst (λ (o : Option Flow). LeavesFunction o) c.flow-flow.ensures.flow h))
    (refuted (ReturnsByBoth map (IsReturn returns) c.args.k) c.returns_by_both.result c.if-returns_by_both.false c.returns_by_both.ensures)
    c.none_ends_in.result c.none_ends_in.ensures
