-- Canonical parts are valid.
use Rattle.std.specs.Prelude.{ℕ, List}
use Rattle.cert_text.specs.declared.certificate.Part.{Part}
use Rattle.cfg_model.specs.Program.Instructions.{InstructionMap, IsLawful}
use Rattle.cfg_model.specs.Program.Reach.{AreSeeds}
use Rattle.cert_laws.specs.Valid.{IsValid}
use Rattle.cert_make.specs.Canonical.{IsCanonical}

-- The canonical part of a program is a valid one.
abbrev pub CanonicalIsValid : Type 0
CanonicalIsValid =
    (map : InstructionMap) (seeds : List ℕ) (part : Part) → IsLawful map → AreSeeds map seeds
    → IsCanonical map seeds part → IsValid map seeds part
