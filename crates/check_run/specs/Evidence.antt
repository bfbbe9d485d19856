-- What the bytes of a certificate are to the bytes of a file.
use Rattle.std.specs.Prelude.{◌≡◌, ℕ, ◌≤◌, List, None, length}
use Rattle.elf_image.specs.Faults.{first_fault}
use Rattle.cert_text.specs.declared.certificate.Certificate.{Certificate}
use Rattle.cert_text.specs.Text.{IsTextOf}
use Rattle.cert_laws.specs.FileCertificate.{IsCertificateOf}
use Rattle.check_run.specs.declared.reading.TheConstants.{CERTIFICATE_LIMIT}

-- These bytes, no more of them than are read, are the text of this certificate.
pub record Holds (text : List ℕ) (certificate : Certificate) : Type 0 where
  pub size : length text ≤ CERTIFICATE_LIMIT
  pub is_text : IsTextOf text certificate

-- The file has no fault, and the bytes hold no certificate.
pub record HasNoText (bytes text : List ℕ) : Type 0 where
  pub accepted : first_fault bytes ≡ None
  pub none : (certificate : Certificate) → ¬ Holds text certificate

-- The file has no fault, and the bytes hold a certificate that is not valid for it.
pub record HasFalse (bytes text : List ℕ) : Type 0 where
  pub accepted : first_fault bytes ≡ None
  pub certificate : Certificate
  pub held : Holds text certificate
  pub not_valid : ¬ IsCertificateOf bytes certificate

-- The file has no fault, and the bytes hold a certificate that is valid for it.
pub record HasValid (bytes text : List ℕ) : Type 0 where
  pub accepted : first_fault bytes ≡ None
  pub certificate : Certificate
  pub held : Holds text certificate
  pub valid : IsCertificateOf bytes certificate
