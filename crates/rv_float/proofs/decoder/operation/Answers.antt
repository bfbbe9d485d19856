use Rattle.std.proofs.Common.{inl, inr, arith}
use Rattle.std.proofs.lemmas.Bool.{cases_eq}
use Rattle.rv_decode.specs.Fields.{funct7}
use Rattle.rv_float.proofs.ByOpcode.{from_integer_to_single, from_integer_to_double}
use Rattle.rv_float.proofs.decoder.operation.Goals as goal

-- funct7 is 68 or 69
pub returns-in-104 : goal.returns-in-104
returns-in-104 c =
    let w = c.args.word in
    elim (cases_eq (funct7 w) 0x68) [
      | inl single ↦ cc (from_integer_to_single w c.requires single)
      | inr not_single ↦ cc (from_integer_to_double w c.requires (omega arith))
    ]
