use Rattle.std.proofs.Common.{◌<◌, length, get_or, sym, ap, ◌∙◌, subst, arith}
use Rattle.std.proofs.lemmas.List.{get_or_default}
use Rattle.cfg_model.specs.Graph.Block.{IsLastOf}
use Rattle.numbered.specs.Numbering.{IsMarked}
use Rattle.reached_graph.proofs.Pushed.{each_more, size_more}
use Rattle.reached_graph.proofs.cuts.lasts_in.Goals as goal

pub loop-i-preserved : goal.loop-i-preserved
loop-i-preserved g c =
    let map = g.C.Chains.map c.args.code.now in
    let number = g.C.Numbered.number c.args.code.now in
    let starts = c.args.starts.now in
    let i = c.loop-i.i in
    let last = c.last_at.result in
    let old = c.loop-i.lasts.items in
    let new = c.push.new.self.items in
    let was = c.loop-i.invariant in
    let pushed = c.in_ok-push.ensures.items in
    let inside : i < length starts = omega arith in
    record {
      as_many = omega (arith, size_more last old new pushed, was.as_many);
      each = each_more (λ j d k. IsLastOf map (IsMarked map number c.args.marks.now) (get_or starts j d) k) last old new pushed was.each
          (λ d. subst (λ s. IsLastOf map (IsMarked map number c.args.marks.now) s last) (get_or_default starts i 0 d inside ∙ ap (λ n. get_or starts n d) (sym was.as_many)) c.last_at.ensures);
    }
