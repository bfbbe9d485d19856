use Rattle.open_machine.proofs.Open.{written_steps_are_open, alone_it_is_the_written}
use Rattle.open_machine.proofs.open_machine_goes_on.Goals as goal

pub returns : goal.returns
returns c = record { written = written_steps_are_open; alone = alone_it_is_the_written }
