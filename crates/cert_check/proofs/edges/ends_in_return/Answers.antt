use Rattle.std.proofs.Common.{subst}
use Rattle.cert_ends.proofs.ListedEnds.{terminator_stands}
use Rattle.cfg_model.proofs.Program.ChainEnds.{one_end}
use Rattle.cert_laws.specs.Lines.{IsReturn}
use Rattle.cert_check.proofs.edges.ends_in_return.Goals as goal

pub has-requires-clause-stands : goal.has-requires-clause-stands
has-requires-clause-stands g c κs within = terminator_stands (g.C.Chains.map c.args.code.now) c.term.result c.term.ensures.term.ends

pub returns : goal.returns
returns g c = (
  λ e. record { end = c.term.result; ends = c.term.ensures.term; among = c.has.ensures.0 e },
  λ h. c.has.ensures.1 (subst (IsReturn c.args.returns.now.lines.now) (one_end (g.C.Chains.map c.args.code.now) c.args.a h.end c.term.result h.ends c.term.ensures.term) h.among),
)
