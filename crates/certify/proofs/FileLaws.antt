-- A file has one canonical certificate. It is a valid one, and its lists rise.
use Rattle.std.proofs.Common.{◌≡◌, ℕ, List, Option, sym, ap₂, ◌∙◌, subst}
use Rattle.std.specs.Prelude.{IfSome}
use Rattle.elf_image.specs.Seeds.{seeds}
use Rattle.code_view.specs.Cuts.{Counts, cut_of}
use Rattle.file_program.specs.FileGraph.{cut_program}
use Rattle.file_program.proofs.Unique.{cuts-unique}
use Rattle.cert_text.specs.declared.certificate.Part.{Part}
use Rattle.cert_text.specs.declared.certificate.Certificate.{Certificate}
use Rattle.cert_text.specs.Text.{PartRises}
use Rattle.cert_laws.proofs.FileShown.{cut-lawful}
use Rattle.cert_make.specs.Canonical.{IsCanonical}
use Rattle.cert_make.proofs.Unique.{one_part}
use Rattle.cert_make.proofs.ValidCanonical.{canonical_is_valid}
use Rattle.certify.specs.Laws.{CanonicalOfFileIsUnique, CanonicalOfFileIsValid, CanonicalOfFileRises}
use Rattle.certify.proofs.SeedsOfFile.{are-seeds}

made : Part → Option Part → Certificate
made part second = record { part = part; second = second }

pub canonical-unique : CanonicalOfFileIsUnique
unfolding made
canonical-unique bytes one other is are =
    let same : is.cuts ≡ are.cuts = cuts-unique bytes is.cuts are.cuts is.are_cuts are.are_cuts in
    let under = subst (λ (c : Counts). IsCanonical (cut_program bytes c) (seeds bytes) one.part) same is.part in
    ap₂ made (one_part (cut_program bytes are.cuts) (seeds bytes) one.part other.part under are.part) (is.one_part ∙ sym are.one_part)

pub canonical-valid : CanonicalOfFileIsValid
canonical-valid bytes certificate accepted is = record {
  cuts = is.cuts;
  are_cuts = is.are_cuts;
  part = canonical_is_valid (cut_program bytes is.cuts) (seeds bytes) certificate.part (cut-lawful bytes is.cuts accepted is.are_cuts) (are-seeds bytes accepted (cut_of is.cuts)) is.part;
  one_part = is.one_part;
}

pub canonical-rises : CanonicalOfFileRises
canonical-rises bytes certificate is = record {
  part = record { returns = is.part.returns.rises; leads = is.part.leads.rises };
  second = subst (λ (o : Option Part). IfSome o PartRises) (sym is.one_part) tt;
}
