-- A file has one graph.
use Rattle.std.proofs.Common.{◌≡◌, ℕ, Option, ap, subst}
use Rattle.std.specs.FinMap as map
use Rattle.std.specs.Cmp.{nat_cmp_total}
use Rattle.elf_image.specs.Header.{entry}
use Rattle.elf_image.specs.Seeds.{seeds}
use Rattle.cfg_model.proofs.Program.OneCut.{cuts_are_unique}
use Rattle.cfg_model.proofs.Graphs.OneGraph.{one_graph}
use Rattle.code_view.specs.Cuts.{Counts, cut_of}
use Rattle.table_cuts.specs.Extents.{extent_at}
use Rattle.file_program.specs.FileGraph.{cut_program, IsGraphUnder}
use Rattle.file_program.specs.Laws.{CutsAreUnique, FileGraphIsUnique}

-- ---- cuts

pub cuts-unique : CutsAreUnique
cuts-unique bytes one other is are =
    let same : cut_of one ≡ cut_of other = cuts_are_unique (extent_at bytes) (cut_of one) (cut_of other) is are in
    map.same_map nat_cmp_total map.nat_cmp-IsAntisymmetric one other (λ j. ap (λ (f : ℕ → Option ℕ). f j) same)

-- ---- graphs

pub graph-unique : FileGraphIsUnique
graph-unique bytes one other is are =
    let same : is.cuts ≡ are.cuts = cuts-unique bytes is.cuts are.cuts is.are_cuts are.are_cuts in
    one_graph (cut_program bytes are.cuts) (seeds bytes) (entry bytes) one other
    (subst (λ (cuts : Counts). IsGraphUnder bytes cuts one) same is.is_graph) are.is_graph
