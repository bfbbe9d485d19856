use Rattle.std.proofs.Common.{◌≡◌, suc, ◌+◌, ◌-◌, ◌*◌, ◌%◌, ◌^◌, ◌∙◌, get_or, ltb, sym, ap, subst, arith}
use Rattle.std.specs.Option.{option_map}
use Rattle.std.proofs.lemmas.Bool.{ltb-true}
use Rattle.std.proofs.lemmas.List.Quantifiers.{position-Some}
use Rattle.landing_pads.specs.Inner.{last_as, leb_of}
use Rattle.landing_pads.proofs.Lebs.{ReadFrom, leb-none, read-last, read-before, value-before}
use Rattle.landing_pads.proofs.number.leb128.Goals as goal

pub returns-in_err-last-clause-value : goal.returns-in_err-last-clause-value
returns-in_err-last-clause-value c =
    c.from_residual.ensures ∙ sym (ap (option_map leb_of) (leb-none (last_as c.args.is_signed) c.args.bytes.now (sym c.in_err-last.ensures)))

pub last_as-value-requires : goal.last_as-value-requires
last_as-value-requires c =
    ltb-true _ 128 (position-Some (λ b. ltb b 128) c.args.bytes.now c.in_ok-last.last 0 (sym c.in_ok-last.ensures)).1

pub loop-i-init : goal.loop-i-init
loop-i-init c = (
  omega arith,
  subst (ReadFrom (last_as c.args.is_signed) c.args.bytes.now c.in_ok-last.last c.in_ok-last.last) (sym c.last_as-value.ensures)
      (read-last (last_as c.args.is_signed) c.args.bytes.now c.in_ok-last.last (sym c.in_ok-last.ensures)),
)

pub loop-i-preserved : goal.loop-i-preserved
loop-i-preserved c =
    let f = last_as c.args.is_signed in
    let bytes = c.args.bytes.now in
    let end = c.in_ok-last.last in
    let i = c.loop-i.i - 1 in
    let value = c.loop-i.value in
    let on : suc i ≡ c.loop-i.i = omega (arith, c.loop-i-test.true) in
    let below = c.loop-i.invariant.0 in
    let new = read-before f bytes end i value (sym c.in_ok-last.ensures) (omega arith) (subst (λ k. ReadFrom f bytes end k value) (sym on) c.loop-i.invariant.1) in
    let same = ap (λ m. ((value * 128) % 2 ^ 64 + m) % 2 ^ 64) c.from.ensures ∙ value-before (get_or bytes i 0) value in
    (omega arith, subst (ReadFrom f bytes end i) (sym same) new)
