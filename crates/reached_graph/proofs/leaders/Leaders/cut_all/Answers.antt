use Rattle.std.proofs.Common.{◌<◌, ◌∙◌, ℕ, length, get_or, ap, subst, arith}
use Rattle.std.proofs.lemmas.List.{get_or_default}
use Rattle.cfg_model.specs.Graph.Block.{IsLastOf}
use Rattle.numbered.specs.Numbering.{IsMarked}
use Rattle.reached_graph.proofs.Settling.{done_set, some_set}
use Rattle.reached_graph.proofs.leaders.Leaders.cut_all.Goals as goal

pub loop-i-preserved : goal.loop-i-preserved
loop-i-preserved g c =
    let map = g.C.Chains.map c.args.code.now in
    let number = g.C.Numbered.number c.args.code.now in
    let marks = c.args.marks.now in
    let starts = c.loop-i.self.starts.items in
    let lasts = c.loop-i.self.lasts.items in
    let i = c.loop-i.i in
    let was = c.loop-i.invariant in
    let inside : i < length starts = omega (arith, c.loop-i-test.true, c.len-i-end.ensures, c.requires.cut.as_many, ap (λ v. length v.items) was.starts) in
    let last : (d : ℕ) → IsLastOf map (IsMarked map number marks) (get_or starts i d) c.last_again.result = λ d. subst (λ s. IsLastOf map (IsMarked map number marks) s c.last_again.result) (c.index.ensures ∙ get_or_default starts i c.index.result.now d inside) c.last_again.ensures in
    record {
      starts = was.starts;
      some = some_set map number marks starts lasts was.some i c.last_again.result inside last;
      done = done_set map number marks starts lasts was.some i c.last_again.result inside last was.done;
    }
