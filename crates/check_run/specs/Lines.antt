-- The one line that each refusal puts on standard error.
use Rattle.std.specs.Prelude.{ℕ, List, [], codes}
use Rattle.elf_image.specs.FaultNames.{fault_name}
use Rattle.run_ends.specs.Line.{failure_line}
use Rattle.check_run.specs.declared.refusal.Refusal.{Refusal}
use Rattle.check_run.specs.declared.refusal.Refusal.TheVariants.{Usage, Malformed, ReadFault}
use Rattle.check_run.specs.declared.refusal.Refusal.TheVariants.{WriteFault, Memory, NoText}
use Rattle.check_run.specs.declared.refusal.Refusal.TheVariants.{Refused}

-- What the line says after the program's name.
abbrev pub text_of : Refusal → List ℕ
text_of Usage = codes "usage: cfg_check make FILE | cfg_check test FILE CERT"
text_of (Malformed fault) = codes "malformed: "
text_of ReadFault = codes "read fault"
text_of WriteFault = codes "write fault"
text_of Memory = codes "out of memory"
text_of NoText = codes "no certificate"
text_of Refused = codes "refused"

-- The name of the fault of a malformed file.
abbrev pub detail_of : Refusal → List ℕ
detail_of Usage = []
detail_of (Malformed fault) = fault_name fault
detail_of ReadFault = []
detail_of WriteFault = []
detail_of Memory = []
detail_of NoText = []
detail_of Refused = []

-- The whole line.
abbrev pub refusal_line : Refusal → List ℕ
refusal_line refusal = failure_line (codes "cfg_check") (text_of refusal) (detail_of refusal)
