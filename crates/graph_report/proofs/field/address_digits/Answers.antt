use Rattle.std.proofs.Common.{◌≡◌, ℕ, List, ap, ◌++◌, ◌/◌, ◌%◌, ◌^◌, bit_and, refl, ◌∙◌, arith}
use Rattle.std.specs.Prelude.{codes}
use Rattle.std.proofs.lemmas.Grind.{and_numeral}
use Rattle.graph_report.specs.Number.{hex_digits}
use Rattle.graph_report.proofs.Digits.{two_halves, no_half, end_written}
use Rattle.graph_report.proofs.field.address_digits.Goals as goal
use Rattle.graph_report.proofs.field.address_digits.Goals.{then-high-gt0, else-high-gt0}

pub returns : goal.returns
returns c =
    let a = c.args.address in
    let low = c.copy_from_slice-2.new.self in
    let zeros = codes "00000000" in
    let below : bit_and a 4294967295 ≡ a % 2 ^ 32 = and_numeral a 4294967294 refl in
    let low_is : low ≡ hex_digits 8 (bit_and a 4294967295) = c.copy_from_slice-2.ensures.after ∙ c.half_digits-2.ensures in
    let halves = two_halves a (a / 2 ^ 32) (bit_and a 4294967295) refl below in
    elim c.if-high-gt0.branch [
      | then-high-gt0 w ↦
          let high = w.copy_from_slice.new.self in
          let high_is : high ≡ hex_digits 8 (a / 2 ^ 32) = w.copy_from_slice.ensures.after ∙ w.half_digits.ensures in
          rw w.digits-is (end_written 8 8 (high ++ zeros) high zeros low refl w.copy_from_slice.ensures.len refl ∙ rw (high_is, low_is) halves)
      | else-high-gt0 w ↦
          let high_is : zeros ≡ hex_digits 8 (a / 2 ^ 32) = no_half (a / 2 ^ 32) (omega arith) in
          rw w.digits-is (end_written 8 8 (zeros ++ zeros) zeros zeros low refl refl refl ∙ ap (λ (xs : List ℕ). xs ++ low) high_is ∙ rw low_is halves)
    ]
