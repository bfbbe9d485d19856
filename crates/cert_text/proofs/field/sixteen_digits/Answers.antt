use Rattle.std.proofs.Common.{sym, arith}
use Rattle.cert_text.proofs.Fields.{value_digit}
use Rattle.cert_text.proofs.Steps.{no_digit, bad_digit, next_digit, all_digits, hex_fits}
use Rattle.cert_text.proofs.field.sixteen_digits.Goals as goal

pub returns-in_err-digit : goal.returns-in_err-digit
returns-in_err-digit c =
    rw c.from_residual.ensures (sym (no_digit c.loop-digit._digit c.loop-digit.address c.loop-digit.rest.now _ (omega arith) c.in_err-digit.ensures.cases c.loop-digit.invariant.0))

pub overflow_mul-address : goal.overflow_mul-address
overflow_mul-address c =
    let fits = hex_fits c.loop-digit._digit c.loop-digit.address 0 (omega arith) c.loop-digit.invariant.1 (omega arith) in
    omega (arith, fits.0)

pub returns-in_err-hex_value : goal.returns-in_err-hex_value
returns-in_err-hex_value c =
    rw c.from_residual-in_err-hex_value.ensures (sym (bad_digit c.loop-digit._digit c.loop-digit.address c.in_ok-digit.digit.now c.loop-digit.rest.now c.in_ok-digit.others.now _ (omega arith) c.in_ok-digit.ensures.cases.0 (sym c.in_err-hex_value.ensures) c.loop-digit.invariant.0))

pub overflow_add-address : goal.overflow_add-address
overflow_add-address c =
    let d = c.in_ok-hex_value.field-0 in
    let digit = value_digit c.in_ok-digit.digit.now d (sym c.in_ok-hex_value.ensures) in
    let fits = hex_fits c.loop-digit._digit c.loop-digit.address d (omega arith) c.loop-digit.invariant.1 digit.0 in
    omega (arith, fits.0, c.from.ensures)

pub loop-digit-preserved : goal.loop-digit-preserved
loop-digit-preserved c =
    let d = c.in_ok-hex_value.field-0 in
    let digit = value_digit c.in_ok-digit.digit.now d (sym c.in_ok-hex_value.ensures) in
    let fits = hex_fits c.loop-digit._digit c.loop-digit.address d (omega arith) c.loop-digit.invariant.1 digit.0 in
    rw c.from.ensures (next_digit c.loop-digit._digit c.loop-digit.address c.in_ok-digit.digit.now d c.loop-digit.rest.now c.in_ok-digit.others.now _ (omega arith) c.in_ok-digit.ensures.cases.0 (sym c.in_ok-hex_value.ensures) c.loop-digit.invariant.0, fits.1)

pub returns : goal.returns
returns c = all_digits c.loop-digit._digit c.loop-digit.address c.loop-digit.rest.now _ (omega arith) c.loop-digit.invariant.0
