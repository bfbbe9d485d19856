use Rattle.code_view.proofs.Views.{none-fits}
use Rattle.test_graph.proofs.cut_tables.looks_up_known_tables.Goals as goal

pub new-uncut-requires-clause-cuts : goal.new-uncut-requires-clause-cuts
new-uncut-requires-clause-cuts g c = none-fits _ _ c.none-none.ensures
