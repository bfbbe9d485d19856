use Rattle.address_map.proofs.EntriesKept.{AreAhead}
use Rattle.address_map.proofs.chunk.Chunk.after.Given as goal

-- no address above a lies in a page that was passed
abbrev pub invariant-loop-page : goal.invariant-loop-page
invariant-loop-page g l = AreAhead l.self l.a l.page
