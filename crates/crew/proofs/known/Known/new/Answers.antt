use Rattle.crew.proofs.Caching.{none_cached}
use Rattle.crew.proofs.known.Known.new.Goals as goal

pub returns-in-Ok : goal.returns-in-Ok
returns-in-Ok c = none_cached 4096 c.in-Ok.places.items (c.in-Ok.ensures.items_if_clones_equal (λ _ same. same))
