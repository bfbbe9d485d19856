-- The exit status of each way to end.
use Rattle.std.specs.Prelude.{ℕ}
use Rattle.walk_run.specs.declared.status.WalkStatus.{WalkStatus}
use Rattle.walk_run.specs.declared.status.WalkStatus.TheVariants.{Done, Usage, Malformed}
use Rattle.walk_run.specs.declared.status.WalkStatus.TheVariants.{ReadFault, WriteFault, Memory}
use Rattle.walk_run.specs.declared.status.WalkStatus.TheVariants.{TooMuch}

abbrev pub number_of : WalkStatus → ℕ
number_of Done = 0
number_of Usage = 1
number_of Malformed = 2
number_of ReadFault = 3
number_of WriteFault = 4
number_of Memory = 5
number_of TooMuch = 6
