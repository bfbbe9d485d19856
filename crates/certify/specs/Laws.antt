-- What is true of the canonical certificate of a file.
use Rattle.std.specs.Prelude.{◌≡◌, ℕ, List}
use Rattle.elf_image.specs.Faults.{IsImage}
use Rattle.cert_text.specs.declared.certificate.Certificate.{Certificate}
use Rattle.cert_text.specs.Text.{Rises}
use Rattle.cert_laws.specs.FileCertificate.{IsCertificateOf}
use Rattle.certify.specs.FileCanonical.{IsCanonicalOf}

-- A file has one.
abbrev pub CanonicalOfFileIsUnique : Type 0
CanonicalOfFileIsUnique =
    (bytes : List ℕ) (one other : Certificate) → IsCanonicalOf bytes one → IsCanonicalOf bytes other
    → one ≡ other

-- It is a valid certificate of the file.
abbrev pub CanonicalOfFileIsValid : Type 0
CanonicalOfFileIsValid =
    (bytes : List ℕ) (certificate : Certificate) → IsImage bytes → IsCanonicalOf bytes certificate
    → IsCertificateOf bytes certificate

-- Its lists rise, so that it can be printed.
abbrev pub CanonicalOfFileRises : Type 0
CanonicalOfFileRises =
    (bytes : List ℕ) (certificate : Certificate) → IsCanonicalOf bytes certificate
    → Rises certificate
