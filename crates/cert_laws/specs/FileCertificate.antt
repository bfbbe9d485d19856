-- Certificates of a file.
use Rattle.std.specs.Prelude.{◌≡◌, ℕ, List, None}
use Rattle.elf_image.specs.Seeds.{seeds}
use Rattle.code_view.specs.Cuts.{Counts}
use Rattle.file_program.specs.FileGraph.{cut_program, AreCutsOf}
use Rattle.cert_text.specs.declared.certificate.Certificate.{Certificate}
use Rattle.cert_laws.specs.Valid.{IsValid}

-- The certificate is valid for a file: it has one part, which is valid for the file's program under
-- the cuts of its jump tables, from its seeds (this project's profile).
pub record IsCertificateOf (bytes : List ℕ) (certificate : Certificate) : Type 0 where
  pub cuts : Counts
  pub are_cuts : AreCutsOf bytes cuts
  pub part : IsValid (cut_program bytes cuts) (seeds bytes) certificate.part
  pub one_part : certificate.second ≡ None
