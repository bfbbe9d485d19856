use Rattle.std.proofs.Common.{◌≡◌, ◌≤◌, List, ℕ, ◌+◌, ◌-◌, ◌++◌, length, take, sym, ap, ◌∙◌, arith}
use lib.Seq.{length-take-le}
use borrow.Rule.Slice.PartMut.{post_of}
use Rattle.graph_report.specs.declared.page.TheConstants.{PAGE_ROOM}
use Rattle.graph_report.proofs.Filling.{page_written, middle_written}
use Rattle.graph_report.proofs.page.Page.push_front.Goals as goal

pub returns : goal.returns
returns c =
    let text = c.args.text.now in
    let bytes = c.self.inside.bytes.items in
    let len = c.self.inside.len in
    let held = c.deref_mut.result.now in
    let copied = c.copy_from_slice.new.self in
    let k = len + length text - len in
    let same : length held ≡ length bytes = ap length c.deref_mut.ensures.value in
    let fits : len ≤ length bytes = c.self.invariant.1 in
    let on_page : length c.args.self.now ≡ len = ap length (sym c.self.view_is) ∙ length-take-le len bytes fits in
    let whole : length text ≡ k = omega arith in
    let long : length copied ≡ k = ap length c.copy_from_slice.ensures.after ∙ whole in
    let most : length c.args.self.now + length text ≤ PAGE_ROOM = c.requires.room in
    let least : PAGE_ROOM ≤ length bytes = c.self.invariant.0 in
    let room : len + k ≤ length held = omega (arith, on_page, same, most, least, whole) in
    ap (λ (xs : List ℕ). take (len + c.args.n) xs) (middle_written c.self.inside.bytes held copied len k c.deref_mut.ensures.value room long)
    ∙ (page_written len c.args.n bytes held text copied (post_of len k held)
    c.deref_mut.ensures.value c.copy_from_slice.ensures.after fits c.requires.within
    ∙ ap (λ (xs : List ℕ). xs ++ take c.args.n text) c.self.view_is)
