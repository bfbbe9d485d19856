use Rattle.free_laws.proofs.OneStep.{steps_read_what_is_said, steps_write_what_is_said}
use Rattle.free_laws.proofs.OpenStep.{open_steps_read_what_is_said, open_steps_write_what_is_said}
use Rattle.free_laws.proofs.steps_do_what_is_said.Goals as goal

pub returns : goal.returns
returns c = record {
  reads = steps_read_what_is_said;
  writes = steps_write_what_is_said;
  open_reads = open_steps_read_what_is_said;
  open_writes = open_steps_write_what_is_said;
}
