use Rattle.code_view.proofs.Views.{none-fits}
use Rattle.test_graph.proofs.cut_tables.cuts_a_table_where_another_begins.Goals as goal

pub new-code-requires-clause-cuts : goal.new-code-requires-clause-cuts
new-code-requires-clause-cuts g c = none-fits _ _ c.none-none.ensures
