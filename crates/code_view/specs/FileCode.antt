-- What the code of a file under table cuts is.
use Rattle.std.specs.Prelude.{ℕ, List, refl}
use Rattle.std.specs.Coded.{Coded, code_by, coded×, coded_ℕ, coded_list}
use Rattle.std.specs.FinMap as map
use Rattle.cfg_model.specs.Program.Instructions.{InstructionMap}
use Rattle.code_view.specs.Cuts.{Counts, cut_of}
use Rattle.code_view.specs.Program.{program_under}

-- The bytes of the file, and the cuts.
pub record FileCode : Type 0 where
  pub bytes : List ℕ
  pub cuts : Counts

-- It is stored as the pair of its fields.
abbrev pub file_code : Coded FileCode
file_code =
    code_by (List ℕ × Counts) (coded× (coded_list coded_ℕ) (map.code coded_ℕ coded_ℕ))
    (λ c. (c.bytes, c.cuts)) (λ p. record { bytes = p.0; cuts = p.1 }) (λ _. refl)

-- The program that it is.
abbrev pub program_of : FileCode → InstructionMap
program_of code = program_under code.bytes (cut_of code.cuts)
