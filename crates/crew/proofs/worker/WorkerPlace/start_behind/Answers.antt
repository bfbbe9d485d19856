use Rattle.crew.proofs.Caching.{desk_after, stays_at, still_cached, next_cached, next_is_true}
use Rattle.crew.proofs.worker.WorkerPlace.start_behind.Goals as goal

pub invariant_of-desk : goal.invariant_of-desk
invariant_of-desk g c = desk_after c.desk.invariant c.start_behind.ensures.tried.stays c.start_behind.ensures.tried.remembers

pub invariant_of-desk-2 : goal.invariant_of-desk-2
invariant_of-desk-2 g c = (
  c.desk.invariant.0,
  stays_at g.S.WorkerIds.board g.S.WorkerIds.share c.desk.inside.seat c.start_behind.new.self c.desk.invariant.1 c.start_behind.ensures.tried.stays,
  next_cached g.J.Job.map g.J.Job.seeds c.desk.inside.cache c.note_some.new.self c.in_ok-next.next c.start_behind.new.self
      (still_cached g.J.Job.map g.J.Job.seeds c.desk.inside.cache c.desk.inside.seat c.start_behind.new.self c.desk.invariant.2 c.start_behind.ensures.tried.remembers)
      c.note_some.ensures
      (next_is_true g.J.Job.map g.J.Job.seeds c.in_ok-next.next c.start_behind.new.self c.in_ok-next.ensures.start c.start_behind.ensures.tried.truth),
)
