use Rattle.code_view.proofs.Views.{none-fits}
use Rattle.test_graph.proofs.cut_tables.tables_of_all_code.Goals as goal

pub new-code-requires-clause-cuts : goal.new-code-requires-clause-cuts
new-code-requires-clause-cuts g c = none-fits _ _ c.none-none.ensures
