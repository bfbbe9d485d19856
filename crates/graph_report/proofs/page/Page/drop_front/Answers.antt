use Rattle.std.proofs.Common.{◌≡◌, ◌≤◌, ℕ, List, length, take, drop, ap, ◌∙◌, arith}
use lib.Seq.{length-take-le}
use Rattle.graph_report.proofs.Filling.{page_dropped}
use Rattle.graph_report.proofs.page.Page.drop_front.Goals as goal

pub returns : goal.returns
returns c =
    let bytes = c.self.inside.bytes.items in
    let len = c.self.inside.len in
    let fits : len ≤ length bytes = c.self.invariant.1 in
    let long : length (take len bytes) ≡ len = length-take-le len bytes fits in
    let same : length (take len bytes) ≡ length c.args.self.now = ap length c.self.view_is in
    let few : c.args.n ≤ len = omega (arith, c.requires) in
    page_dropped len c.args.n bytes c.copy_within.new.self.items c.copy_within.ensures.items few fits
    ∙ ap (λ (xs : List ℕ). drop c.args.n xs) c.self.view_is
