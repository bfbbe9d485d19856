use Rattle.std.proofs.Common.{arith}
use Rattle.std.proofs.lemmas.Bool.Decides.{nat_tests}
use Rattle.rv_decode.proofs.ByOpcode.{atomic_word_cases, atomic_double_cases}
use Rattle.rv_decode.proofs.decoder.atomic_kind.Goals as goal

pub returns-in_default-clause-word : goal.returns-in_default-clause-word
returns-in_default-clause-word c = λ h. let e = atomic_word_cases c.args.word c.requires h in grind (arith, nat_tests)

pub returns-in_default-clause-doubleword : goal.returns-in_default-clause-doubleword
returns-in_default-clause-doubleword c = λ h. let e = atomic_double_cases c.args.word c.requires h in grind (arith, nat_tests)
