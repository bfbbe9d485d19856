use Rattle.rv_flow.proofs.Expanded.{every_expansion_decodes}
use Rattle.rv_flow.proofs.laws.every_expansion_decodes.Goals as goal

pub returns : goal.returns
returns c = every_expansion_decodes
