use Rattle.std.proofs.Common.{length, ◌∙◌}
use Rattle.std.specs.Prelude.{codes, decimal}
use Rattle.std.specs.List.{flat_map}
use Rattle.std.specs.Option.{option_map}
use Rattle.graph_report.specs.Number.{address_digits}
use Rattle.graph_report.specs.Words.{status_word}
use Rattle.graph_report.specs.Name.{name_byte, name_field}
use Rattle.graph_report.proofs.Lefts.{moved_front, five_fields}
use Rattle.graph_report.proofs.line.begin_function.Goals as goal

pub returns-clause-text : goal.returns-clause-text
returns-clause-text c =
    let f = c.args.function.now in
    let field = name_field (option_map (λ s. s.now) c.args.name) in
    moved_front c.begin_name.new.page c.push-2.new.self (flat_map name_byte c.begin_name.result.now) field (codes "\n") c.begin_name.ensures.text
    ∙ five_fields c.args.page.now c.push.new.self c.push_address.new.page c.push_field.new.page c.push_number.new.page c.push-2.new.self
    (codes "function") (address_digits f.entry) (status_word f.returns) (decimal (length f.body)) field (codes "\n")
    c.push.ensures c.push_address.ensures.text (rw c.status_word.ensures.word at c.push_field.ensures.text) (rw c.as_slice.ensures at c.push_number.ensures.text) c.push-2.ensures
