use Rattle.std.proofs.Common.{subst}
use Rattle.cfg_model.proofs.Program.ChainEnds.{one_end}
use Rattle.cert_laws.specs.Lines.{IsReturn}
use Rattle.cert_check.proofs.graph.ends_in_return.Goals as goal

pub returns : goal.returns
returns g c = (
  λ e. record { end = c.term.result; ends = c.term.ensures.term; among = c.is_return.ensures.0 e },
  λ h. c.is_return.ensures.1 (subst (IsReturn c.args.returns.now) (one_end (g.C.Chains.map c.args.code.now) c.args.a h.end c.term.result h.ends c.term.ensures.term) h.among),
)
