use Rattle.std.proofs.Common.{◌≡◌, arith}
use Rattle.std.proofs.lemmas.Bool.Decides.{nat_tests}
use Rattle.rv_decode.specs.Fields.{funct3}
use Rattle.rv_decode.proofs.ByOpcode.{imm_cases}
use Rattle.rv_decode.proofs.decoder.imm_kind.Goals as goal

-- funct3 is 7
pub returns-in_default : goal.returns-in_default
returns-in_default c =
    let seven : funct3 c.args.word ≡ 7 = omega arith in
    let e = imm_cases c.args.word c.requires.code in
    grind (arith, nat_tests)
