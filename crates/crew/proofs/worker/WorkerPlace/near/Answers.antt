use Rattle.crew.proofs.Caching.{desk_after}
use Rattle.crew.proofs.worker.WorkerPlace.near.Goals as goal

pub invariant_of-desk : goal.invariant_of-desk
invariant_of-desk g c = desk_after c.desk.invariant c.near.ensures.tried.stays c.near.ensures.tried.remembers
