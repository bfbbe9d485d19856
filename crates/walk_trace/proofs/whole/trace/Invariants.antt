use Rattle.std.proofs.Common.{◌≡◌, ◌-◌, ◌++◌, Some}
use Rattle.walk_trace.specs.Trace.{trace_text, steps_on}
use Rattle.walk_trace.specs.Inner.{AreDecoded, walk_of}
use Rattle.walk_trace.proofs.whole.trace.Given as goal

-- the text so far, and what the steps that are left print, are the trace
abbrev pub invariant-loop : goal.invariant-loop
invariant-loop l = record {
  told : l.text.items ++ steps_on l.image l.graph.blocks l.graph.edges (Some (walk_of l.walker)) (l.steps - l.counter) ≡ trace_text l.image l.graph l.steps;
  decoded : AreDecoded l.image l.walker.decoded;
}
