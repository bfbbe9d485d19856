-- What std's `parse` gives at a text of one to nine decimal digits.
use Rattle.std.proofs.Common.{◌≡◌, ℕ, ◌≤◌, ◌<◌, ◌^◌, true, List, length, Result, Ok, refl, arith, rules, nat_le, ◌&&◌}
use Rattle.std.specs.Char.{is_ascii_digit}
use Rattle.std.specs.List.{list_all}
use Rattle.std.specs.Result.{result_ok}
use Rattle.std.specs.Str.Parse.{ParsesUnsigned, digits_value}
use Rattle.std.proofs.lemmas.Bool.{and_parts, leb-true}
use Rattle.std.proofs.lemmas.Str.Parse.{IsDigitsTest, IsNumeralModel, digits_value_short, numerals_by_value, parse_gives}
use Rattle.cfg_words.specs.Value.{is_number, number_of}

abbrev AreDigits : List ℕ → Type 0
AreDigits ds = list_all is_ascii_digit ds ≡ true

tells_digits : IsDigitsTest AreDigits
tells_digits = search rules

own : IsNumeralModel AreDigits (digits_value 10)
own = numerals_by_value AreDigits tells_digits

pub number_read : {E : Type 0} (bs : List ℕ) (r : Result ℕ E) → ParsesUnsigned 32 10 bs r → is_number bs ≡ true → result_ok r ≡ number_of bs
number_read bs r h n =
    let some = and_parts (nat_le 1 (length bs)) (nat_le (length bs) 9 && list_all is_ascii_digit bs) n in
    let rest = and_parts (nat_le (length bs) 9) (list_all is_ascii_digit bs) some.1 in
    let least : 1 ≤ length bs = leb-true 1 (length bs) some.0 in
    let most : length bs ≤ 9 = leb-true (length bs) 9 rest.0 in
    let small : digits_value 10 bs < 10 ^ 9 = digits_value_short own bs 9 rest.1 most in
    let is : r ≡ Ok (digits_value 10 bs) = parse_gives own 32 bs r h rest.1 (omega arith) (omega arith) in
    rw (is, n) refl
