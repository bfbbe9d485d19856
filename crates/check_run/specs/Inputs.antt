-- What a run does to its inputs.
use Rattle.std.specs.Prelude.{◌≡◌, ℕ, ◌+◌, ◌≤◌, ◌<◌, ◌⊎◌, List, [], length, Bool}
use Rattle.std.specs.Prelude.{Option, Some, None, IfSome}
use Rattle.cfg_io.specs.Opened.{Opened, Nothing, Something, told_path}
use Rattle.cfg_io.specs.Told.{TakesCount, TakesAtMost}
use Rattle.run_ends.specs.declared.reading.TheConstants.{FILE_LIMIT}
use Rattle.check_run.specs.declared.reading.TheConstants.{CERTIFICATE_LIMIT}
use Rattle.check_run.specs.declared.status.CheckStatus.{CheckStatus}
use Rattle.check_run.specs.declared.status.CheckStatus.TheVariants as statuses
use Rattle.check_run.specs.Words.{Asked, of_make, of_test}

-- The status says that the file was read.
abbrev pub HasReadFile : CheckStatus → Type 0
HasReadFile statuses.Done = Unit {0}
HasReadFile statuses.Usage = ⊥
HasReadFile statuses.Malformed = Unit {0}
HasReadFile statuses.ReadFault = ⊥
HasReadFile statuses.WriteFault = Unit {0}
HasReadFile statuses.Memory = ⊥
HasReadFile statuses.NoText = Unit {0}
HasReadFile statuses.Refused = Unit {0}

-- The status of a test says that the certificate was read.
abbrev pub HasReadCertificate : CheckStatus → Type 0
HasReadCertificate statuses.Done = Unit {0}
HasReadCertificate statuses.Usage = ⊥
HasReadCertificate statuses.Malformed = ⊥
HasReadCertificate statuses.ReadFault = ⊥
HasReadCertificate statuses.WriteFault = Unit {0}
HasReadCertificate statuses.Memory = ⊥
HasReadCertificate statuses.NoText = Unit {0}
HasReadCertificate statuses.Refused = Unit {0}

-- The run ended at its words or at the file, before the certificate.
abbrev pub NeedsNoCertificate : CheckStatus → Type 0
NeedsNoCertificate statuses.Done = ⊥
NeedsNoCertificate statuses.Usage = Unit {0}
NeedsNoCertificate statuses.Malformed = Unit {0}
NeedsNoCertificate statuses.ReadFault = ⊥
NeedsNoCertificate statuses.WriteFault = ⊥
NeedsNoCertificate statuses.Memory = ⊥
NeedsNoCertificate statuses.NoText = ⊥
NeedsNoCertificate statuses.Refused = ⊥

-- Nothing was opened, or what stands at this path.
abbrev pub OpenedAt : List ℕ → Bool → Opened → Type 0
OpenedAt path tells now = (now ≡ Nothing) ⊎ (now ≡ Something (told_path tells path))

-- The input stands as it did, and nothing is opened: `old` and `new` are the bytes that are left
-- before and after, and `before` and `after` the counts of calls that failed.
pub record IsUntouched (now : Opened) (old new : Option (List ℕ)) (before after : ℕ) : Type 0 where
  pub opened : now ≡ Nothing
  pub rest : new ≡ old
  pub faults : after ≡ before

-- What stands at this path was opened and read to its end, as far as the input tells its bytes.
pub record IsReadWhole (path : List ℕ) (tells : Bool) (now : Opened)
    (left : Option (List ℕ)) : Type 0 where
  pub opened : now ≡ Something (told_path tells path)
  pub at_end : IfSome left (λ bytes. bytes ≡ [])

-- What was read of an input at a path, up to a limit of bytes. `IsRead` says that it was read, and
-- `IsTooLarge` that it may have more bytes than the limit.
pub record IsReadWithin (limit : ℕ) (IsRead IsTooLarge : Type 0) (path : List ℕ) (tells : Bool)
    (now : Opened) (old new : Option (List ℕ)) : Type 0 where
  pub opened : IsRead → now ≡ Something (told_path tells path)
  pub whole : IsRead → ¬ IsTooLarge → IsReadWhole path tells now new
  pub to_end : IfSome old (λ bytes. length bytes ≤ limit → IsRead → new ≡ Some [])
  pub too_large : IfSome old (λ bytes. limit < length bytes → IsRead
      → TakesCount old (limit + 1) new)
  pub within_limit : ¬ IsTooLarge → TakesAtMost old limit new

-- The file at a path that is asked for, in a run that ends in this way.
pub record IsFileRead (path : List ℕ) (end : CheckStatus) (tells : Bool) (now : Opened)
    (old new : Option (List ℕ)) : Type 0 where
  pub opened : OpenedAt path tells now
  pub read : IsReadWithin FILE_LIMIT (HasReadFile end) (end ≡ statuses.Malformed) path tells now
      old new

-- The certificate at a path, in a test that ends in this way.
pub record IsCertificateRead (path : List ℕ) (end : CheckStatus) (tells : Bool) (now : Opened)
    (old new : Option (List ℕ)) (before after : ℕ) : Type 0 where
  pub opened : OpenedAt path tells now
  pub untouched : NeedsNoCertificate end → IsUntouched now old new before after
  pub read : IsReadWithin CERTIFICATE_LIMIT (HasReadCertificate end) (end ≡ statuses.NoText) path
      tells now old new

-- What was done to the file for what is asked for. If nothing is, nothing was done.
abbrev pub FileReadFor : Option Asked → CheckStatus → Bool → Opened
    → Option (List ℕ) → Option (List ℕ) → ℕ → ℕ → Type 0
FileReadFor None end tells now old new before after = IsUntouched now old new before after
FileReadFor (Some (of_make file)) end tells now old new before after =
    IsFileRead file end tells now old new
FileReadFor (Some (of_test file certificate)) end tells now old new before after =
    IsFileRead file end tells now old new

-- What was done to the certificate. It is touched for a test alone.
abbrev pub CertificateReadFor : Option Asked → CheckStatus → Bool → Opened
    → Option (List ℕ) → Option (List ℕ) → ℕ → ℕ → Type 0
CertificateReadFor None end tells now old new before after = IsUntouched now old new before after
CertificateReadFor (Some (of_make file)) end tells now old new before after =
    IsUntouched now old new before after
CertificateReadFor (Some (of_test file certificate)) end tells now old new before after =
    IsCertificateRead certificate end tells now old new before after

-- A test took its inputs in order: it ended at the file, and the certificate is untouched; or the
-- file was opened and read to its end before the certificate. If a read failed, it is one of the
-- input where the test ended.
pub data EndsInOrder (end : CheckStatus) (FileFailed CertificateFailed : Type 0)
    (IsFileWhole IsOtherUntouched : Type 0) : Type 0 where
  at_file : IsOtherUntouched → (end ≡ statuses.ReadFault → FileFailed)
      → EndsInOrder end FileFailed CertificateFailed IsFileWhole IsOtherUntouched
  after_file : IsFileWhole → (end ≡ statuses.ReadFault → CertificateFailed)
      → EndsInOrder end FileFailed CertificateFailed IsFileWhole IsOtherUntouched

-- The inputs were taken in order. Only a test takes two: `tells`, `now` and `left` are the file's.
abbrev pub TakenInOrder : Option Asked → CheckStatus → Type 0 → Type 0
    → Bool → Opened → Option (List ℕ) → Type 0 → Type 0
TakenInOrder None end file certificate tells now left untouched = Unit {0}
TakenInOrder (Some (of_make path)) end file certificate tells now left untouched = Unit {0}
TakenInOrder (Some (of_test path other)) end file certificate tells now left untouched =
    EndsInOrder end file certificate (IsReadWhole path tells now left) untouched
