-- A text has one certificate.
use Rattle.std.specs.Prelude.{◌≡◌, ℕ, List}
use Rattle.cert_text.specs.declared.certificate.Certificate.{Certificate}
use Rattle.cert_text.specs.Text.{IsTextOf}

abbrev pub TextsAreUnique : Type 0
TextsAreUnique =
    (bytes : List ℕ) (c d : Certificate) → IsTextOf bytes c → IsTextOf bytes d → c ≡ d
