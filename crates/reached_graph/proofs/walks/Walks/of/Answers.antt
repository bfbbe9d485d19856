use Rattle.std.proofs.Common.{get_or, refl, sym, subst, arith}
use Rattle.std.specs.Prelude.{Contains}
use Rattle.std.proofs.lemmas.List.{take_all}
use Rattle.std.proofs.lemmas.List.Elements.{Contains-get_or}
use Rattle.numbered.specs.Numbering.{IsMarked}
use Rattle.reached_graph.proofs.Joining.{none_joined}
use Rattle.reached_graph.proofs.Starting.{walks_new}
use Rattle.reached_graph.proofs.Walking.{more_begun}
use Rattle.reached_graph.proofs.walks.Walks.of.Goals as goal

pub loop-s-init : goal.loop-s-init
loop-s-init g c =
    let map = g.C.Chains.map c.args.code.now in
    let number = g.C.Numbered.number c.args.code.now in
    let w = c.in_ok-walks.walks in
    let new = walks_new map number c.args.marks.now w c.requires.lawful c.requires.numbering c.in_ok-walks.ensures.walked c.in_ok-walks.ensures.starts in
    record {
      fit = new.0;
      begun = λ a there. absurd {A = IsMarked map number w.walked.items a} (omega (arith, there.1));
      joined = none_joined map number c.args.marks.now w c.in_ok-walks.ensures.starts c.in_ok-walks.ensures.joins;
      walked = new.1;
    }

pub loop-s-preserved : goal.loop-s-preserved
loop-s-preserved g c =
    let map = g.C.Chains.map c.args.code.now in
    let number = g.C.Numbered.number c.args.code.now in
    let firsts = c.args.firsts.now in
    let i = c.loop-s.s-index in
    let from = c.in_ok-walk.ensures in
    record {
      fit = from.fit;
      begun = more_begun map number _ c.loop-s.walks c.walk.new.self firsts i c.loop-s-test.true refl from c.loop-s.invariant.begun;
      joined = from.joined c.args.marks.now c.loop-s.invariant.joined;
      walked = λ seeds are. from.walked seeds c.args.marks.now (c.requires.marked (get_or firsts i 0) (Contains-get_or firsts i 0 c.loop-s-test.true)) (c.loop-s.invariant.walked seeds are);
    }

pub returns : goal.returns
returns g c =
    let firsts = c.args.firsts.now in
    record {
      fit = c.loop-s.invariant.fit;
      begun = λ a there. c.loop-s.invariant.begun a (subst (λ xs. Contains xs a) (sym (take_all c.loop-s.s-index firsts (omega arith))) there);
      joined = c.loop-s.invariant.joined;
      walked = c.loop-s.invariant.walked;
    }
