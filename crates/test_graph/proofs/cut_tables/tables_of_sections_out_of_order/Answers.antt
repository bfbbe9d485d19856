use Rattle.code_view.proofs.Views.{none-fits}
use Rattle.test_graph.proofs.cut_tables.tables_of_sections_out_of_order.Goals as goal

pub new-code-requires-clause-cuts : goal.new-code-requires-clause-cuts
new-code-requires-clause-cuts g c = none-fits _ _ c.none-none.ensures
