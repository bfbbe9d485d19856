use Rattle.core_state.proofs.LineStarts.{none_least, least_there}
use Rattle.core_state.proofs.starts.Starts.least_of.Goals as goal

pub returns-in_err-get : goal.returns-in_err-get
returns-in_err-get c =
    none_least c.self.inside.lines c.args.self.now c.self.view_is c.args.a c.first_of.result c.first_of.ensures c.in_err-get.ensures c.from_residual.result c.from_residual.ensures

pub returns : goal.returns
returns c =
    least_there c.self.inside.lines c.args.self.now c.self.view_is c.args.a c.first_of.result c.first_of.ensures c.in_ok-get.field-0.now c.in_ok-get.ensures c.least.result c.least.ensures
