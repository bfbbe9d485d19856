-- The canonical certificate of a file.
use Rattle.std.specs.Prelude.{◌≡◌, ℕ, List, None}
use Rattle.elf_image.specs.Seeds.{seeds}
use Rattle.code_view.specs.Cuts.{Counts}
use Rattle.file_program.specs.FileGraph.{cut_program, AreCutsOf}
use Rattle.cert_text.specs.declared.certificate.Certificate.{Certificate}
use Rattle.cert_make.specs.Canonical.{IsCanonical}

-- It has one part, the canonical one of the file's program under the cuts of its jump tables, from
-- its seeds (this project's profile).
pub record IsCanonicalOf (bytes : List ℕ) (certificate : Certificate) : Type 0 where
  pub cuts : Counts
  pub are_cuts : AreCutsOf bytes cuts
  pub part : IsCanonical (cut_program bytes cuts) (seeds bytes) certificate.part
  pub one_part : certificate.second ≡ None
