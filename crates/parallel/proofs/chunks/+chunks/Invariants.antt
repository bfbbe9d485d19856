use Rattle.std.proofs.Common.{◌+◌, ◌-◌, ◌*◌, length}
use Rattle.parallel.proofs.chunks.+chunks.Given as goal

-- the places that are left; a closure stands between a call and that which it makes
abbrev pub decreases-chunks_from : goal.decreases-chunks_from
decreases-chunks_from g l = 3 * length l.s.now

abbrev pub decreases-first_and_rest : goal.decreases-first_and_rest
decreases-first_and_rest g l = 3 * (length l.first.now + length l.rest.now) - 1

abbrev pub decreases-first_and_rest-theirs : goal.decreases-first_and_rest-theirs
decreases-first_and_rest-theirs g l = 3 * length l.first.now + 1

abbrev pub decreases-first_and_rest-ours : goal.decreases-first_and_rest-ours
decreases-first_and_rest-ours g l = 3 * length l.rest.now + 1
