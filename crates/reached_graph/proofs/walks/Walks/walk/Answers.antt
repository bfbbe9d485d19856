use Rattle.std.proofs.lemmas.Result.{on_ok_weaker}
use Rattle.reached_graph.proofs.Walking.{walk_from, walk_none}
use Rattle.reached_graph.proofs.walks.Walks.walk.Goals as goal

pub returns-then-not-begin : goal.returns-then-not-begin
returns-then-not-begin g c =
    walk_none (g.C.Chains.map c.args.code.now) (g.C.Numbered.number c.args.code.now) c.args.s c.args.self.now c.begin.new.self c.if-not-begin.ensures.fit c.if-not-begin.ensures.cases.0 c.if-not-begin.ensures.cases.1

pub returns : goal.returns
returns g c =
    on_ok_weaker c.go_on.result (walk_from (g.C.Chains.map c.args.code.now) (g.C.Numbered.number c.args.code.now) c.args.s c.args.self.now c.go_on.new.self c.begin.new.self c.if-not-begin.ensures.cases) c.go_on.ensures
