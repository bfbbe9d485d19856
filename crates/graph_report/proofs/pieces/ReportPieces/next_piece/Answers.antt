use Rattle.std.proofs.Common.{◌≡◌, ℕ, List, ◌++◌, refl, sym, ap, ◌∙◌}
use Rattle.elf_image.specs.Seeds.{seed_name}
use Rattle.graph_report.specs.Inner.{text_left}
use Rattle.graph_report.proofs.Giving.{some_read}
use Rattle.graph_report.proofs.pieces.ReportPieces.next_piece.Goals as goal

pub returns : goal.returns
returns c =
    let names = seed_name c.self.inside.names in
    let left = text_left names c.fill.new.self in
    let page = c.fill.new.page in
    let whole : c.args.self.now ≡ page ++ left = sym c.self.view_is ∙ ap (λ (xs : List ℕ). xs ++ text_left names c.self.inside.left) (sym c.drop_front.ensures) ∙ sym c.fill.ensures.moves in
    let given = some_read c.args.self.now page c.bytes.result.now left c.min-n.result (rw c.len.ensures at c.min-n.ensures) whole c.fill.ensures.filled c.if-n-eq0.false c.bytes.ensures in
    ((refl, (λ _. tt), given), record { piece = tt })
