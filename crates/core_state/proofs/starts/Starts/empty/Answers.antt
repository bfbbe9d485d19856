use Rattle.std.proofs.Common.{ap, ◌∙◌}
use Rattle.core_state.specs.inner.Lines.{starts_of}
use Rattle.core_state.proofs.Lines.{no_starts}
use Rattle.core_state.proofs.LineStarts.{no_lines}
use Rattle.core_state.proofs.starts.Starts.empty.Goals as goal

pub invariant_of-result : goal.invariant_of-result
invariant_of-result c = no_lines c.new.result c.new.ensures

pub returns : goal.returns
returns c = ap starts_of c.new.ensures ∙ no_starts
