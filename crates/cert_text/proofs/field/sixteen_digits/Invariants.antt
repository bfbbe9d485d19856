use Rattle.std.proofs.Common.{◌≡◌, ◌<◌, ◌-◌, ◌^◌}
use Rattle.cert_text.specs.Reading.{hex_from}
use Rattle.cert_text.proofs.field.sixteen_digits.Given as goal

abbrev pub invariant-loop-digit : goal.invariant-loop-digit
invariant-loop-digit l =
    (hex_from (16 - l._digit) l.address l.rest ≡ hex_from 16 0 l.bytes)
    × (l.address < 16 ^ l._digit)
