use Rattle.crew.proofs.Caching.{desk_after, stays_at, still_cached, start_cached, next_cached, next_is_true}
use Rattle.crew.proofs.worker.WorkerPlace.has_start.Goals as goal

pub invariant_of-desk : goal.invariant_of-desk
invariant_of-desk g c = desk_after c.desk.invariant c.starts_from.ensures.tried.stays c.starts_from.ensures.tried.remembers

pub invariant_of-desk-then-is_start : goal.invariant_of-desk-then-is_start
invariant_of-desk-then-is_start g c =
    let known = c.in_ok-is_start.ensures.brings c.if-is_start.true in (
      c.desk.invariant.0,
      stays_at g.S.WorkerIds.board g.S.WorkerIds.share c.desk.inside.seat c.starts_from.new.self c.desk.invariant.1 c.starts_from.ensures.tried.stays,
      start_cached g.J.Job.map g.J.Job.seeds (record c.desk.inside.cache { starts = c.note_some.new.self }) c.note.new.self c.args.s c.starts_from.new.self
          (next_cached g.J.Job.map g.J.Job.seeds c.desk.inside.cache c.note_some.new.self c.in_ok-is_start.next c.starts_from.new.self
          (still_cached g.J.Job.map g.J.Job.seeds c.desk.inside.cache c.desk.inside.seat c.starts_from.new.self c.desk.invariant.2 c.starts_from.ensures.tried.remembers)
          c.note_some.ensures
          (next_is_true g.J.Job.map g.J.Job.seeds c.in_ok-is_start.next c.starts_from.new.self c.in_ok-is_start.ensures.start c.starts_from.ensures.tried.truth))
          c.note.ensures
          (known, c.starts_from.ensures.tried.truth _ known),
    )

pub invariant_of-desk-else-is_start : goal.invariant_of-desk-else-is_start
invariant_of-desk-else-is_start g c = (
  c.desk.invariant.0,
  stays_at g.S.WorkerIds.board g.S.WorkerIds.share c.desk.inside.seat c.starts_from.new.self c.desk.invariant.1 c.starts_from.ensures.tried.stays,
  next_cached g.J.Job.map g.J.Job.seeds c.desk.inside.cache c.note_some.new.self c.in_ok-is_start.next c.starts_from.new.self
      (still_cached g.J.Job.map g.J.Job.seeds c.desk.inside.cache c.desk.inside.seat c.starts_from.new.self c.desk.invariant.2 c.starts_from.ensures.tried.remembers)
      c.note_some.ensures
      (next_is_true g.J.Job.map g.J.Job.seeds c.in_ok-is_start.next c.starts_from.new.self c.in_ok-is_start.ensures.start c.starts_from.ensures.tried.truth),
)
