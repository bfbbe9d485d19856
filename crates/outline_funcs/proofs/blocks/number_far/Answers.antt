use Rattle.outline_funcs.proofs.Numbers.{stretch_number}
use Rattle.outline_funcs.proofs.blocks.number_far.Goals as goal

pub returns-in-Some : goal.returns-in-Some
returns-in-Some c = stretch_number c.args.blocks.now c.range_of-first.result.0 _ c.in-Some.place c.args.a c.in-Some.ensures.some
