use Rattle.std.proofs.Common.{sym, subst}
use Rattle.cfg_model.specs.Program.Chain.{EndsChain}
use Rattle.cert_make.proofs.Walked.{ends_by}
use Rattle.cert_make.proofs.runs.next_of.Goals as goal

pub returns-in_default : goal.returns-in_default
returns-in_default g c = subst EndsChain (sym c.flow.ensures.flow) (ends_by c.flow.result c.in_default.not-Straight)
