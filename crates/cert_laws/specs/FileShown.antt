-- What a valid certificate shows of a file.
use Rattle.std.specs.Prelude.{ℕ, List}
use Rattle.elf_image.specs.Faults.{IsImage}
use Rattle.elf_image.specs.Seeds.{seeds}
use Rattle.code_view.specs.Cuts.{Counts}
use Rattle.file_program.specs.FileGraph.{cut_program, AreCutsOf}
use Rattle.cert_text.specs.declared.certificate.Certificate.{Certificate}
use Rattle.cert_laws.specs.Shown.{ShowsLines}
use Rattle.cert_laws.specs.FileCertificate.{IsCertificateOf}

-- Its part lists the leaders and returns of the file's program under the cuts of its jump tables.
abbrev pub ValidShowsFile : Type 0
ValidShowsFile =
    (bytes : List ℕ) (certificate : Certificate) (cuts : Counts) → IsImage bytes
    → IsCertificateOf bytes certificate → AreCutsOf bytes cuts
    → ShowsLines (cut_program bytes cuts) (seeds bytes) certificate.part
