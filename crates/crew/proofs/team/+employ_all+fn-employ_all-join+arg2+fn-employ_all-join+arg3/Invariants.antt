use Rattle.std.proofs.Common.{◌+◌, ◌*◌, vec_len}
use Rattle.crew.proofs.team.+employ_all+fn-employ_all-join+arg2+fn-employ_all-join+arg3.Given as goal

-- the hands that are left, each of which takes a call and a thread
abbrev pub decreases-employ_all : goal.decreases-employ_all
decreases-employ_all g l = 2 * vec_len l.hands

abbrev pub decreases-join+arg2 : goal.decreases-join+arg2
decreases-join+arg2 g l = 2 * vec_len l.low + 1

abbrev pub decreases-join+arg3 : goal.decreases-join+arg3
decreases-join+arg3 g l = 2 * vec_len l.high + 1
