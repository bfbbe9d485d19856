use Rattle.std.proofs.Common.{◌≡◌, ◌-◌, List, length, drop, ap, ◌∙◌, subst, arith}
use Rattle.std.proofs.lemmas.List.{take_all, length-drop}
use Rattle.std.specs.Prelude.{◌↔◌, Contains}
use Rattle.cfg_model.specs.declared.graph.Edge.{Edge}
use Rattle.reached_graph.proofs.InOrder.{moved_if}
use Rattle.reached_graph.proofs.edges.sort_more.Goals as goal

pub returns : goal.returns
returns c =
    let xs = c.args.edges.now.items in
    let n = c.args.from in
    let held = c.deref.result.now in
    let last = c.edges_in_order-last.result.items in
    let slice : c.in_ok-last.last.items ≡ drop n xs = c.in_ok-last.ensures.items ∙ take_all (length held - n) (drop n held) (omega (arith, length-drop n held)) ∙ ap (drop n) c.deref.ensures.value in
    let same : (x : Edge) → Contains last x ↔ Contains (drop n xs) x = λ x. subst (λ (ys : List Edge). Contains last x ↔ Contains ys x) slice (c.edges_in_order-last.ensures.same x) in
    let front = c.truncate.ensures.items in
    moved_if c.extend_from_slice.result xs last n c.extend_from_slice.new.self.items same
    (rw (front, c.deref-2.ensures.value) at c.extend_from_slice.ensures.items)
