use Rattle.std.proofs.Common.{Bool, List, sym, subst}
use Rattle.cfg_model.specs.Program.Chain.{GoesOnTo, IsTerminator}
use Rattle.numbered.specs.Numbering.{IsMarked}
use Rattle.reached_graph.specs.Inner.Walks.{IsFresh, IsStopped}
use Rattle.reached_graph.proofs.Joining.{begun_joined, stopped_joined}
use Rattle.reached_graph.proofs.Walking.{stopped_keeps, walk_ends, walks_go, walks_stop}
use Rattle.reached_graph.proofs.walks.Walks.go_on.Goals as goal

pub loop-next-init : goal.loop-next-init
loop-next-init g c = record {
  fit = c.requires.fit;
  kept = λ a on. on;
  joined = λ marks are. are;
  here = c.requires.here;
  walked = λ seeds marks have. have;
}

pub loop-next-preserved : goal.loop-next-preserved
loop-next-preserved g c =
    let map = g.C.Chains.map c.args.code.now in
    let number = g.C.Numbered.number c.args.code.now in
    let old = c.loop-next.self in
    let new = c.enter.new.self in
    let at = c.loop-next.at in
    let next = c.in-Some.next in
    let goes : GoesOnTo map at next = c.in-Some.ensures in
    let fresh : IsFresh map number next old new = rw c.if-not-branch.false at c.in_ok-enter.ensures.cases in
    record {
      fit = c.in_ok-enter.ensures.fit;
      kept = λ a on. fresh.begun.walked.kept a (c.loop-next.invariant.kept a on);
      joined = λ marks are. begun_joined map number marks old new (c.loop-next.invariant.joined marks are) next fresh.begun;
      here = fresh.begun.walked.here;
      walked = λ seeds marks have. walks_go map number seeds marks old new c.loop-next.invariant.fit.lawful at next goes c.loop-next.invariant.here (c.loop-next.invariant.walked seeds marks have) fresh;
    }

pub returns-then-not-branch : goal.returns-then-not-branch
returns-then-not-branch g c =
    let map = g.C.Chains.map c.args.code.now in
    let number = g.C.Numbered.number c.args.code.now in
    let old = c.loop-next.self in
    let new = c.enter.new.self in
    let at = c.loop-next.at in
    let next = c.in-Some.next in
    let goes : GoesOnTo map at next = c.in-Some.ensures in
    let stopped : IsStopped map number next old new = rw c.if-not-branch.true at c.in_ok-enter.ensures.cases in
    record {
      fit = c.in_ok-enter.ensures.fit;
      kept = λ a on. subst (λ (xs : List Bool). IsMarked map number xs a) (sym (stopped_keeps map number next old new stopped)) (c.loop-next.invariant.kept a on);
      joined = λ marks are. stopped_joined map number marks old new (c.loop-next.invariant.joined marks are) next stopped;
      walked = λ seeds marks have. walks_stop map number seeds marks old new c.loop-next.invariant.fit.lawful at next goes c.loop-next.invariant.here (c.loop-next.invariant.walked seeds marks have) stopped;
    }

pub returns : goal.returns
returns g c =
    let map = g.C.Chains.map c.args.code.now in
    let number = g.C.Numbered.number c.args.code.now in
    let w = c.loop-next.self in
    let at = c.loop-next.at in
    let ends : IsTerminator map at = c.in_default.ensures in
    record {
      fit = c.loop-next.invariant.fit;
      kept = c.loop-next.invariant.kept;
      joined = c.loop-next.invariant.joined;
      walked = λ seeds marks have. walk_ends map seeds (IsMarked map number marks) (IsMarked map number w.walked.items) (IsMarked map number w.starts.items) at ends (c.loop-next.invariant.walked seeds marks have);
    }
