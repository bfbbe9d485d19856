-- A valid certificate of a file shows the lines of its program under its cuts.
use Rattle.std.proofs.Common.{◌≡◌, ℕ, ◌≤◌, List, Option, sym, ap, ◌∙◌, subst, arith}
use Rattle.std.specs.Option.{option_map}
use Rattle.std.proofs.Math.Nat.{le-max_left}
use Rattle.std.proofs.lemmas.Option.{same_Some}
use Rattle.elf_image.specs.Faults.{IsImage}
use Rattle.elf_image.specs.Seeds.{seeds}
use Rattle.cfg_model.specs.Program.Instructions.{IsLawful}
use Rattle.cfg_model.specs.Program.Cuts.{Extent, AreCuts}
use Rattle.code_view.specs.Cuts.{Counts, cut_of, CutsFit}
use Rattle.code_view.proofs.Lawful.{program-lawful}
use Rattle.table_cuts.specs.Extents.{extent_of, extent_at}
use Rattle.table_cuts.proofs.Counted.{has-table}
use Rattle.file_program.specs.FileGraph.{cut_program, AreCutsOf}
use Rattle.file_program.proofs.Unique.{cuts-unique}
use Rattle.cert_laws.specs.Valid.{IsValid}
use Rattle.cert_laws.specs.FileShown.{ValidShowsFile}
use Rattle.cert_laws.proofs.ShowsGraph.{valid_shows_graph}

-- Cuts of tables fit their file.
cuts-fit : (bytes : List ℕ) (cuts : ℕ → Option ℕ) → AreCuts (extent_at bytes) cuts → CutsFit bytes cuts
cuts-fit bytes cuts are j count is =
    let cut = (are j count).0 is in
    let has = has-table bytes j cut.table cut.at_jump in
    let same : extent_of has.table ≡ cut.table = same_Some (extent_of has.table) cut.table (sym (ap (option_map extent_of) has.at_jump) ∙ cut.at_jump) in
    let as_many : has.table.count ≡ cut.table.count = ap (λ (e : Extent). e.count) same in
    let fewer : count ≤ cut.table.count = omega (arith, cut.fewer) in
    record {
      table = has.table;
      at_jump = has.at_jump;
      some = subst (λ n. 1 ≤ n) (sym cut.entries) (le-max_left 1 _);
      within = omega (arith, as_many, fewer);
    }

-- The program of a file under its cuts is lawful.
pub cut-lawful : (bytes : List ℕ) (cuts : Counts) → IsImage bytes → AreCutsOf bytes cuts → IsLawful (cut_program bytes cuts)
cut-lawful bytes cuts accepted are = program-lawful bytes accepted (cut_of cuts) (cuts-fit bytes (cut_of cuts) are)

pub valid-shows-file : ValidShowsFile
valid-shows-file bytes certificate cuts accepted valid are =
    valid_shows_graph (cut_program bytes cuts) (seeds bytes) certificate.part (cut-lawful bytes cuts accepted are)
    (subst (λ (c : Counts). IsValid (cut_program bytes c) (seeds bytes) certificate.part) (cuts-unique bytes valid.cuts cuts valid.are_cuts are) valid.part)
