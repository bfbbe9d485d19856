use Rattle.crew.proofs.Caching.{desk_after}
use Rattle.crew.proofs.worker.WorkerPlace.moved.Goals as goal

pub invariant_of-desk : goal.invariant_of-desk
invariant_of-desk g c = desk_after c.desk.invariant c.moved.ensures.tried.stays c.moved.ensures.tried.remembers
