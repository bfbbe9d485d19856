use Rattle.std.proofs.Common.{◌≤◌, ◌+◌, ◌++◌, ℕ, List, length, take, refl, sym, ap, ◌∙◌, arith}
use Rattle.std.specs.Prelude.{codes}
use Rattle.graph_report.specs.declared.page.TheConstants.{LINE_ROOM, PAGE_ROOM}
use Rattle.graph_report.specs.Number.{address_digits, hex_digits}
use Rattle.graph_report.specs.Words.{edge_word}
use Rattle.graph_report.proofs.Filling.{line_length, line_within, line_fits, line_written}
use Rattle.graph_report.proofs.line.EdgeLined.push_line.Goals as goal

pub slice_bounds-push_front-end : goal.slice_bounds-push_front-end
slice_bounds-push_front-end c =
    sym (line_length 38 12 (codes "edge") c.copy_from_slice.new.self (codes "            ") c.copy_from_slice-2.new.self
    (ap (λ (n : ℕ). 4 + n) c.copy_from_slice.ensures.len) refl c.copy_from_slice-2.ensures.len)

pub push_front-requires-clause-within : goal.push_front-requires-clause-within
push_front-requires-clause-within c =
    let most : c.edge_field-last.result.len ≤ 9 = c.edge_field-last.ensures.within in
    line_within 38 12 (codes "edge") c.copy_from_slice.new.self (codes "            ") c.copy_from_slice-2.new.self
    (ap (λ (n : ℕ). 4 + n) c.copy_from_slice.ensures.len) refl c.copy_from_slice-2.ensures.len
    (38 + c.edge_field-last.result.len) (omega (arith, most))

pub push_front-requires-clause-room : goal.push_front-requires-clause-room
push_front-requires-clause-room c =
    let room : length c.args.page.now + LINE_ROOM ≤ PAGE_ROOM = c.requires.room in
    line_fits 38 12 (codes "edge") c.copy_from_slice.new.self (codes "            ") c.copy_from_slice-2.new.self
    (ap (λ (n : ℕ). 4 + n) c.copy_from_slice.ensures.len) refl c.copy_from_slice-2.ensures.len
    (length c.args.page.now) PAGE_ROOM (omega (arith, room))

pub returns-clause-text : goal.returns-clause-text
unfolding hex_digits
returns-clause-text c =
    let last = c.copy_from_slice-2.new.self in
    let len = c.edge_field-last.result.len in
    let edge = c.args.self.now in
    c.push_front.ensures
    ∙ ap (λ (xs : List ℕ). c.args.page.now ++ xs)
    (line_written 38 12 (codes "edge") c.copy_from_slice.new.self (codes "            ") last
    (ap (λ (n : ℕ). 4 + n) c.copy_from_slice.ensures.len) refl
    len (address_digits edge.from) (address_digits edge.to) (edge_word edge.kind)
    (c.copy_from_slice.ensures.after ∙ c.two_addresses.ensures)
    (ap (λ (xs : List ℕ). take len xs) c.copy_from_slice-2.ensures.after ∙ c.edge_field-last.ensures.text))
