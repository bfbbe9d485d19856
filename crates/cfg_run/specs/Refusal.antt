-- The status that each refusal ends with.
use Rattle.cfg_run.specs.declared.refusal.Refusal.{Refusal}
use Rattle.cfg_run.specs.declared.refusal.Refusal.TheVariants as refusals
use Rattle.elf_image.specs.declared.fault.Fault.TheVariants.{TooLarge}
use Rattle.elf_image.specs.declared.fault.ElfError.{ElfError}
use Rattle.elf_image.specs.declared.fault.ElfError.TheVariants as errors
use Rattle.cfg_words.specs.declared.error.WordsError.{WordsError}
use Rattle.cfg_words.specs.declared.error.WordsError.TheVariants as words
use Rattle.run_ends.specs.declared.reading.Unread.{Unread}
use Rattle.run_ends.specs.declared.reading.Unread.TheVariants as unread
use Rattle.cfg_run.specs.declared.status.Status.{Status}
use Rattle.cfg_run.specs.declared.status.Status.TheVariants as statuses

abbrev pub status_of : Refusal → Status
status_of refusals.Usage = statuses.Usage
status_of (refusals.Malformed fault) = statuses.Malformed
status_of refusals.ReadFault = statuses.ReadFault
status_of refusals.WriteFault = statuses.WriteFault
status_of refusals.Memory = statuses.Memory

-- The refusal that an error of the file's readers is.
abbrev pub refusal_of : ElfError → Refusal
refusal_of (errors.Malformed fault) = refusals.Malformed fault
refusal_of errors.Memory = refusals.Memory

-- The refusal that an error of the words is.
abbrev pub refusal_of_words : WordsError → Refusal
refusal_of_words words.Usage = refusals.Usage
refusal_of_words words.Memory = refusals.Memory

-- The refusal that a file which was not read is.
abbrev pub refusal_of_unread : Unread → Refusal
refusal_of_unread unread.ReadFault = refusals.ReadFault
refusal_of_unread unread.TooLarge = refusals.Malformed TooLarge
refusal_of_unread unread.Memory = refusals.Memory
