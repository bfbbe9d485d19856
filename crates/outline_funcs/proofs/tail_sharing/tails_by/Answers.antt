use Rattle.outline_funcs.proofs.TailPlaces.{all_listed}
use Rattle.outline_funcs.proofs.tail_sharing.tails_by.Goals as goal

pub returns : goal.returns
returns g c =
    all_listed c.args.functions.now c.args.edges.now _
    c.in_ok-lists.lists.items c.new.result.items c.appended_if_made.result
    c.new.ensures.items c.in_ok-lists.ensures c.appended_if_made.ensures.made c.appended_if_made.ensures.appended
