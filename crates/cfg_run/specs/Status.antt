-- The exit status of each way to end.
use Rattle.std.specs.Prelude.{ℕ}
use Rattle.cfg_run.specs.declared.status.Status.{Status}
use Rattle.cfg_run.specs.declared.status.Status.TheVariants.{Done, Usage, Malformed}
use Rattle.cfg_run.specs.declared.status.Status.TheVariants.{ReadFault, WriteFault, Memory}

abbrev pub number_of : Status → ℕ
number_of Done = 0
number_of Usage = 1
number_of Malformed = 2
number_of ReadFault = 3
number_of WriteFault = 4
number_of Memory = 5
