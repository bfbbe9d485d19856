-- The status that each refusal ends with.
use Rattle.walk_run.specs.declared.refusal.Refusal.{Refusal}
use Rattle.walk_run.specs.declared.refusal.Refusal.TheVariants as refusals
use Rattle.elf_image.specs.declared.fault.Fault.TheVariants.{TooLarge}
use Rattle.elf_image.specs.declared.fault.ElfError.{ElfError}
use Rattle.elf_image.specs.declared.fault.ElfError.TheVariants as errors
use Rattle.run_ends.specs.declared.reading.Unread.{Unread}
use Rattle.run_ends.specs.declared.reading.Unread.TheVariants as unread
use Rattle.rv_machine.specs.declared.regions.RamError.{RamError}
use Rattle.rv_machine.specs.declared.regions.RamError.TheVariants as rams
use Rattle.walk_run.specs.declared.status.WalkStatus.{WalkStatus}
use Rattle.walk_run.specs.declared.status.WalkStatus.TheVariants as statuses

abbrev pub status_of : Refusal → WalkStatus
status_of refusals.Usage = statuses.Usage
status_of (refusals.Malformed fault) = statuses.Malformed
status_of refusals.ReadFault = statuses.ReadFault
status_of refusals.WriteFault = statuses.WriteFault
status_of refusals.Memory = statuses.Memory
status_of refusals.TooMuch = statuses.TooMuch

-- The refusal that an error of the file's readers is.
abbrev pub refusal_of : ElfError → Refusal
refusal_of (errors.Malformed fault) = refusals.Malformed fault
refusal_of errors.Memory = refusals.Memory

-- The refusal that a file which was not read is.
abbrev pub refusal_of_unread : Unread → Refusal
refusal_of_unread unread.ReadFault = refusals.ReadFault
refusal_of_unread unread.TooLarge = refusals.Malformed TooLarge
refusal_of_unread unread.Memory = refusals.Memory

-- The refusal of a file that gets no memory.
abbrev pub refusal_of_ram : RamError → Refusal
refusal_of_ram rams.TooMuch = refusals.TooMuch
refusal_of_ram rams.Memory = refusals.Memory
