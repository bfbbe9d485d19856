use Rattle.code_view.proofs.Views.{lawful-view}
use Rattle.code_view.proofs.code.CodeChains.has.Goals as goal

pub returns-clause-lawful : goal.returns-clause-lawful
returns-clause-lawful c = lawful-view _ _ c.self.invariant.accepted c.self.invariant.cuts _ c.self.view_is
