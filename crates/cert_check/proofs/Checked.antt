-- What the steps of a check show of a certificate of a file.
use Rattle.std.proofs.Common.{◌≡◌, ◌∙◌, ℕ, List, Option, Some, None, is_some, true, false, refl, sym, ap, subst}
use Rattle.elf_image.specs.Header.{entry}
use Rattle.elf_image.specs.Seeds.{seeds}
use Rattle.cfg_model.specs.declared.graph.Graph.{Graph}
use Rattle.cfg_model.specs.Program.Instructions.{InstructionMap}
use Rattle.cfg_model.specs.Graph.Graph.{IsGraph}
use Rattle.code_view.specs.Cuts.{Counts}
use Rattle.code_view.specs.FileCode.{FileCode, program_of}
use Rattle.file_program.specs.FileGraph.{cut_program, AreCutsOf, IsGraphOf}
use Rattle.file_program.proofs.UnderCuts.{program-is, graph-under}
use Rattle.file_program.proofs.Unique.{cuts-unique}
use Rattle.cert_text.specs.declared.certificate.Part.{Part}
use Rattle.cert_text.specs.declared.certificate.Certificate.{Certificate}
use Rattle.cert_laws.specs.Valid.{IsValid}
use Rattle.cert_laws.specs.FileCertificate.{IsCertificateOf}

valid-as : {one other : InstructionMap} {from to : List ℕ} (part : Part) → one ≡ other → from ≡ to → IsValid one from part → IsValid other to part
valid-as {one} {other} {from} {to} part same all valid = subst (λ (m : InstructionMap). IsValid m to part) same (subst (λ (s : List ℕ). IsValid one s part) all valid)

-- A certificate with a second part, and one with none.
pub two-parts : (bytes : List ℕ) (certificate : Certificate) → is_some certificate.second ≡ true → ¬ IsCertificateOf bytes certificate
two-parts bytes certificate some = λ valid. no-part certificate.second valid.one_part some
  where
    no-part : (o : Option Part) → o ≡ None → is_some o ≡ true → ⊥
    no-part None none some = cc
    no-part (Some part) none some = cc

pub one-part : (o : Option Part) → is_some o ≡ false → o ≡ None
one-part None none = refl
one-part (Some part) none = absurd (cc)

module _ (bytes from : List ℕ) (certificate : Certificate) (code : FileCode) (cuts : Counts) (same : code.bytes ≡ bytes) (under : code.cuts ≡ cuts) (all : from ≡ seeds bytes) (are : AreCutsOf bytes cuts) where
  program : program_of code ≡ cut_program bytes cuts
  program = program-is bytes cuts code same under

  -- A certificate whose part is not valid.
  pub not-valid : ¬ IsValid (program_of code) from certificate.part → ¬ IsCertificateOf bytes certificate
  not-valid refused = λ valid.
      let one : valid.cuts ≡ cuts = cuts-unique bytes valid.cuts cuts valid.are_cuts are in
      refused (valid-as certificate.part (ap (λ (c : Counts). cut_program bytes c) one ∙ sym program) (sym all) valid.part)

  -- A valid certificate.
  pub is-certificate : certificate.second ≡ None → IsValid (program_of code) from certificate.part → IsCertificateOf bytes certificate
  is-certificate one valid = record {
    cuts = cuts;
    are_cuts = are;
    part = valid-as certificate.part program all valid;
    one_part = one;
  }

  -- The graph of its file.
  pub is-graph : (start : ℕ) (graph : Graph) → start ≡ entry bytes → IsGraph (program_of code) from start graph → IsGraphOf bytes graph
  is-graph start graph first graphed = record {
    cuts = cuts;
    are_cuts = are;
    is_graph = graph-under bytes from start (program_of code) cuts graph program all first graphed;
  }
