use Rattle.std.proofs.lemmas.Bool.{false≢true}
use Rattle.cfg_model.specs.Program.Chain.{GoesOnTo}
use Rattle.cfg_model.specs.Graph.Block.{RunsTo}
use Rattle.cfg_model.proofs.Graphs.Runs.{goes_up, run_step}
use Rattle.numbered.specs.Numbering.{IsMarked}
use Rattle.reached_graph.proofs.blocks.last_of.Goals as goal

pub loop-next-init : goal.loop-next-init
loop-next-init g c = record { runs = RunsTo.here; stands = c.requires.stands }

pub loop-next-preserved : goal.loop-next-preserved
loop-next-preserved g c =
    let map = g.C.Chains.map c.args.code.now in
    let number = g.C.Numbered.number c.args.code.now in
    let at = c.loop-next.at in
    let next = c.in-Some.next in
    let goes : GoesOnTo map at next = c.in-Some.ensures in
    record {
      runs = run_step map (IsMarked map number c.args.marks.now) c.args.s at next c.loop-next.invariant.runs goes (λ on. false≢true (c.if-is_marked.ensures.1 on));
      stands = (goes_up map at next c.term-k.ensures.lawful goes).2;
    }
