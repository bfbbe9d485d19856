use Rattle.std.proofs.Common.{◌≡◌, ◌∙◌, ap, sym, subst, List, ℕ}
use Rattle.std.proofs.lemmas.Result.{IfOk-weaker}
use Rattle.code_view.specs.FileCode.{FileCode}
use Rattle.code_view.specs.Tables.{AreAllTables}
use Rattle.code_view.proofs.Views.{none-fits}
use Rattle.file_program.specs.FileGraph.{AreCutsOf, IsGraphOf}
use Rattle.file_program.proofs.UnderCuts.{program-is, graph-under}
use Rattle.file_graph.proofs.graph.graph_of.Goals as goal

pub new-uncut-requires-clause-cuts : goal.new-uncut-requires-clause-cuts
new-uncut-requires-clause-cuts g c = none-fits c.args.image.now _ c.none-none.ensures

pub returns : goal.returns
returns g c =
    let bytes = c.args.image.now in
    let plain : c.new-uncut.result.bytes ≡ bytes = c.new-uncut.ensures.bytes in
    let same : c.with_tables-uncut.result.bytes ≡ bytes = ap (λ (f : FileCode). f.bytes) c.with_tables-uncut.ensures ∙ plain in
    let cuts = c.in_ok-cuts.cuts in
    IfOk-weaker c.graph.result _ (IsGraphOf bytes)
    (λ graph is. record {
      cuts = cuts;
      are_cuts = subst (λ (b : List ℕ). AreCutsOf b cuts) plain (c.in_ok-cuts.ensures.cuts c.new-uncut.result.bytes c.in_ok-tables.ensures.tables);
      is_graph = graph-under bytes _ c.entry.result _ cuts graph
          (program-is bytes cuts c.under-code.result (c.under-code.ensures.bytes ∙ same) c.under-code.ensures.cuts)
          (c.addresses-2.ensures.addresses ∙ c.requires.seeds.addresses) c.entry.ensures.entry is;
    }) c.graph.ensures
