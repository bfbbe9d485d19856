use Rattle.std.proofs.Common.{◌++◌, ◌/◌, ◌%◌, ◌^◌, ◌∙◌, append_assoc, refl, sym, arith}
use Rattle.std.specs.Prelude.{codes}
use Rattle.graph_report.specs.Number.{hex_digits}
use Rattle.graph_report.proofs.Digits.{four_bytes, end_written}
use Rattle.graph_report.proofs.field.half_digits.Goals as goal

pub returns : goal.returns
unfolding hex_digits
returns c =
    let half = c.args.half in
    let front = c.copy_from_slice.new.self in
    let back = c.copy_from_slice-2.new.self in
    let zeros = codes "0000" in
    end_written 4 4 (front ++ zeros) front zeros back refl c.copy_from_slice.ensures.len refl
    ∙ rw (c.copy_from_slice.ensures.after, c.copy_from_slice-2.ensures.after, c.two_bytes_digits.ensures, c.two_bytes_digits-2.ensures, c.to_be_bytes.ensures)
    (append_assoc (hex_digits 2 (half / 256 ^ 3 % 256)) (hex_digits 2 (half / 256 ^ 2 % 256)) (hex_digits 2 (half / 256 % 256) ++ hex_digits 2 (half % 256))
    ∙ sym (four_bytes half (omega arith)))
