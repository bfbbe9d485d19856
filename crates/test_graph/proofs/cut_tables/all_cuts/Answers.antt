use Rattle.test_graph.proofs.cut_tables.all_cuts.Goals as goal

pub cuts_of-requires : goal.cuts_of-requires
cuts_of-requires c = (c.args.code.now.bytes, c.in_ok-tables.ensures)

pub returns : goal.returns
returns c = c.in_ok-cuts_of.ensures.fits c.args.code.now.bytes c.in_ok-tables.ensures
