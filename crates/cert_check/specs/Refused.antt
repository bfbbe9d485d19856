-- What a certificate that was refused shows.
use Rattle.cert_check.specs.declared.error.CheckError.{CheckError}
use Rattle.cert_check.specs.declared.error.CheckError.TheVariants.{Refused, Memory}

-- This holds if the certificate was refused. Of want of memory it says nothing.
abbrev pub IfRefused : CheckError → Type 0 → Type 0
IfRefused Refused P = P
IfRefused Memory P = Unit {0}
