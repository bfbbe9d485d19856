use Rattle.std.proofs.Common.{sym, ◌∙◌}
use Rattle.cert_ends.proofs.Adjacent.{false_true}
use Rattle.cert_ends.proofs.Placed.{part_from, part_leads, part_returns}
use Rattle.cert_ends.proofs.rising.part_rises.Goals as goal

pub returns-then-returns_rise-clause-exact : goal.returns-then-returns_rise-clause-exact
returns-then-returns_rise-clause-exact c = (
  λ e. part_from c.args.part.now c.as_slice.result.now c.as_slice-then-returns_rise.result.now c.as_slice.ensures c.as_slice-then-returns_rise.ensures (c.returns_rise.ensures.0 c.if-returns_rise.true) (c.leads_rise.ensures.0 e),
  λ up. c.leads_rise.ensures.1 (part_leads c.args.part.now c.as_slice-then-returns_rise.result.now c.as_slice-then-returns_rise.ensures up),
)

pub returns-else-returns_rise-clause-exact : goal.returns-else-returns_rise-clause-exact
returns-else-returns_rise-clause-exact c = (
  λ e. false_true (sym c.if-returns_rise.false ∙ e),
  λ up. c.returns_rise.ensures.1 (part_returns c.args.part.now c.as_slice.result.now c.as_slice.ensures up),
)
