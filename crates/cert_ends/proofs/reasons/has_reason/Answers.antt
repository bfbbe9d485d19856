use Rattle.std.proofs.Common.{◌∙◌, ℕ, List, subst}
use Rattle.std.specs.Prelude.{Contains}
use Rattle.cfg_model.proofs.Program.Known.{successor_known}
use Rattle.cert_ends.proofs.reasons.has_reason.Goals as goal

pub ends_in-requires-clause-stands : goal.ends_in-requires-clause-stands
ends_in-requires-clause-stands g c κs within =
    successor_known (g.C.Chains.map c.args.code.now) c.flow-flow.ensures.lawful c.args.line.at c.in-To.target
    (subst (λ (xs : List ℕ). Contains xs c.in-To.target) (c.as_slice.ensures.value ∙ c.in_ok-find_successors-in-To.ensures)
    (c.is_among-leads_there.ensures.0 c.if-leads_there.true))
