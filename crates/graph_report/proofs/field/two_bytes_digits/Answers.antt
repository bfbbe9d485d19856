use Rattle.std.proofs.Common.{◌++◌, ◌∙◌, refl}
use Rattle.std.specs.Prelude.{codes}
use Rattle.graph_report.proofs.Digits.{end_written}
use Rattle.graph_report.proofs.field.two_bytes_digits.Goals as goal

pub returns : goal.returns
returns c =
    let one = c.copy_from_slice.new.self in
    let other = c.copy_from_slice-2.new.self in
    let zeros = codes "00" in
    end_written 2 2 (one ++ zeros) one zeros other refl c.copy_from_slice.ensures.len refl
    ∙ rw (c.copy_from_slice.ensures.after, c.copy_from_slice-2.ensures.after, c.byte_digits.ensures, c.byte_digits-2.ensures) refl
