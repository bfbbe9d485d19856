use Rattle.std.proofs.Common.{◌≡◌, ◌∙◌, ap, subst, refl, List, ℕ}
use Rattle.elf_image.specs.Seeds.{seeds}
use Rattle.cfg_model.specs.Program.Instructions.{InstructionMap}
use Rattle.code_view.specs.FileCode.{FileCode, program_of}
use Rattle.code_view.proofs.Views.{none-fits}
use Rattle.file_program.specs.FileGraph.{cut_program, AreCutsOf}
use Rattle.file_program.proofs.UnderCuts.{program-is}
use Rattle.cert_make.specs.Canonical.{IsCanonical}
use Rattle.certify.proofs.file.file_certificate.Goals as goal

pub new-uncut-requires-clause-cuts : goal.new-uncut-requires-clause-cuts
new-uncut-requires-clause-cuts c = none-fits c.args.image.now _ c.none-none.ensures

pub returns-clause-canonical : goal.returns-clause-canonical
returns-clause-canonical c =
    let bytes = c.args.image.now in
    let plain : c.new-uncut.result.bytes ≡ bytes = c.new-uncut.ensures.bytes in
    let same : c.with_tables-uncut.result.bytes ≡ bytes = ap (λ (f : FileCode). f.bytes) c.with_tables-uncut.ensures ∙ plain in
    let cuts = c.in_ok-cuts.cuts in
    let part = c.in_ok-part.part in
    let starts = c.addresses-starts.result.now in
    let program = program-is bytes cuts c.under-code.result (c.under-code.ensures.bytes ∙ same) c.under-code.ensures.cuts in
    record {
      cuts = cuts;
      are_cuts = subst (λ (b : List ℕ). AreCutsOf b cuts) plain (c.in_ok-cuts.ensures.cuts c.new-uncut.result.bytes c.in_ok-tables.ensures);
      part =
          subst (λ (m : InstructionMap). IsCanonical m (seeds bytes) part) program
          (subst (λ (s : List ℕ). IsCanonical (program_of c.under-code.result) s part) (c.addresses-starts.ensures.addresses ∙ c.requires.seeds.addresses) c.in_ok-part.ensures.canonical);
      one_part = refl;
    }
