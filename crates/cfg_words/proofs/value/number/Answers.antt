use Rattle.std.proofs.Common.{◌≡◌, ◌∙◌, ap, sym, true}
use Rattle.cfg_words.specs.Value.{is_number}
use Rattle.cfg_words.proofs.Number.{number_read}
use Rattle.cfg_words.proofs.value.number.Goals as goal

pub returns-then-is_number : goal.returns-then-is_number
returns-then-is_number c =
    let is : is_number c.args.text.now ≡ true = ap is_number (sym c.as_bytes.ensures.value) ∙ (sym c.is_number.ensures ∙ c.if-is_number.true) in
    c.ok.ensures.value ∙ number_read c.args.text.now c.parse.result c.parse.ensures.value.0 is
