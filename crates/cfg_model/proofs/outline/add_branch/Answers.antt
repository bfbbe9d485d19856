use Rattle.std.proofs.lemmas.Result.{on_ok_weaker}
use Rattle.cfg_model.specs.declared.graph.EdgeKind.TheVariants as kinds
use Rattle.cfg_model.specs.Inner.Ways.{IsEdgeTo}
use Rattle.cfg_model.proofs.Graphs.Gaining.{Gains-then}
use Rattle.cfg_model.proofs.outline.add_branch.Goals as goal

pub returns : goal.returns
returns c = on_ok_weaker c.add_some-2.result (λ second. Gains-then c.args.edges.now.items c.add_some.new.edges.items c.add_some-2.new.edges.items (IsEdgeTo c.args.from kinds.Taken c.args.taken) (IsEdgeTo c.args.from kinds.Fall c.args.fall) c.in_ok-add_some.ensures second) c.add_some-2.ensures
