-- The status that each refusal ends with.
use Rattle.check_run.specs.declared.refusal.Refusal.{Refusal}
use Rattle.check_run.specs.declared.refusal.Refusal.TheVariants as refusals
use Rattle.elf_image.specs.declared.fault.Fault.TheVariants.{TooLarge}
use Rattle.elf_image.specs.declared.fault.ElfError.{ElfError}
use Rattle.elf_image.specs.declared.fault.ElfError.TheVariants as errors
use Rattle.run_ends.specs.declared.reading.Unread.{Unread}
use Rattle.run_ends.specs.declared.reading.Unread.TheVariants as unread
use Rattle.cert_text.specs.declared.error.TextError.{TextError}
use Rattle.cert_text.specs.declared.error.TextError.TheVariants as texts
use Rattle.cert_check.specs.declared.error.CheckError.{CheckError}
use Rattle.cert_check.specs.declared.error.CheckError.TheVariants as checks
use Rattle.check_run.specs.declared.status.CheckStatus.{CheckStatus}
use Rattle.check_run.specs.declared.status.CheckStatus.TheVariants as statuses

abbrev pub status_of : Refusal → CheckStatus
status_of refusals.Usage = statuses.Usage
status_of (refusals.Malformed fault) = statuses.Malformed
status_of refusals.ReadFault = statuses.ReadFault
status_of refusals.WriteFault = statuses.WriteFault
status_of refusals.Memory = statuses.Memory
status_of refusals.NoText = statuses.NoText
status_of refusals.Refused = statuses.Refused

-- The refusal that an error of the file's readers is.
abbrev pub refusal_of : ElfError → Refusal
refusal_of (errors.Malformed fault) = refusals.Malformed fault
refusal_of errors.Memory = refusals.Memory

-- The refusal that a file which was not read is.
abbrev pub refusal_of_file : Unread → Refusal
refusal_of_file unread.ReadFault = refusals.ReadFault
refusal_of_file unread.TooLarge = refusals.Malformed TooLarge
refusal_of_file unread.Memory = refusals.Memory

-- The refusal that a certificate which was not read is.
abbrev pub refusal_of_certificate : Unread → Refusal
refusal_of_certificate unread.ReadFault = refusals.ReadFault
refusal_of_certificate unread.TooLarge = refusals.NoText
refusal_of_certificate unread.Memory = refusals.Memory

-- The refusal that a text of no certificate is.
abbrev pub refusal_of_text : TextError → Refusal
refusal_of_text texts.NoText = refusals.NoText
refusal_of_text texts.Memory = refusals.Memory

-- The refusal that a certificate of no graph is.
abbrev pub refusal_of_check : CheckError → Refusal
refusal_of_check checks.Refused = refusals.Refused
refusal_of_check checks.Memory = refusals.Memory
