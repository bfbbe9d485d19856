-- The exit status of each way to end.
use Rattle.std.specs.Prelude.{ℕ}
use Rattle.check_run.specs.declared.status.CheckStatus.{CheckStatus}
use Rattle.check_run.specs.declared.status.CheckStatus.TheVariants.{Done, Usage, Malformed}
use Rattle.check_run.specs.declared.status.CheckStatus.TheVariants.{ReadFault, WriteFault, Memory}
use Rattle.check_run.specs.declared.status.CheckStatus.TheVariants.{NoText, Refused}

abbrev pub number_of : CheckStatus → ℕ
number_of Done = 0
number_of Usage = 1
number_of Malformed = 2
number_of ReadFault = 3
number_of WriteFault = 4
number_of Memory = 5
number_of NoText = 6
number_of Refused = 7
