use Rattle.std.proofs.Common.{◌≡◌, length, sym, ◌∙◌}
use Rattle.core_state.proofs.PlacesLooked.{if_none, nothing_in_all}
use Rattle.core_state.proofs.left.left_by.Goals as goal

pub returns-clause-none : goal.returns-clause-none
returns-clause-none g c =
    let found = c.in_ok-found.found in
    let long : length found.items ≡ 65 = sym found.ok.0 ∙ c.in_ok-found.ensures.as_many in
    if_none c.first_of.result (nothing_in_all c.args.seeds.now c.args.state.now.maps found.items long c.in_ok-found.ensures.each) c.first_of.ensures.none
