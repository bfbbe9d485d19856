use Rattle.elf_image.specs.Header.{entry}
use Rattle.elf_image.specs.Seeds.{seeds}
use Rattle.file_program.specs.FileGraph.{cut_program}
use Rattle.live_crew.proofs.Outlines.{bodies_of_graph_rise, order_of_graph}
use Rattle.dump_threads.proofs.lives.made_once.Goals as goal

pub graph_lives_by-requires-clause-order : goal.graph_lives_by-requires-clause-order
graph_lives_by-requires-clause-order g c κs within =
    let is = c.requires.of_file in
    order_of_graph (cut_program c.args.image.now is.cuts) (seeds c.args.image.now) (entry c.args.image.now) c.args.graph.now is.is_graph

pub graph_lives_by-requires-clause-bodies : goal.graph_lives_by-requires-clause-bodies
graph_lives_by-requires-clause-bodies g c κs within =
    let is = c.requires.of_file in
    bodies_of_graph_rise (cut_program c.args.image.now is.cuts) (seeds c.args.image.now) (entry c.args.image.now) c.args.graph.now is.is_graph
