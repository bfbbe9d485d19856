use Rattle.std.proofs.Common.{sym, ◌∙◌}
use Rattle.core_state.proofs.LineStarts.{no_line, of_line}
use Rattle.core_state.proofs.starts.Starts.start.Goals as goal

pub returns-in_err-get : goal.returns-in_err-get
returns-in_err-get c =
    c.from_residual.ensures ∙ sym (no_line c.self.inside.lines c.args.self.now c.self.view_is c.args.s c.first_of.result c.first_of.ensures c.in_err-get.ensures)

pub returns : goal.returns
returns c =
    c.mark.ensures
    ∙ sym (of_line c.self.inside.lines c.args.self.now c.self.view_is c.args.s c.first_of.result c.first_of.ensures c.in_ok-get.field-0.now c.in_ok-get.ensures)
