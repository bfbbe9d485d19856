use Rattle.std.proofs.Common.{◌≡◌, ◌++◌}
use Rattle.parallel.specs.Lists.{all_in}
use Rattle.parallel.proofs.lists.appended.Given as goal

-- all lists so far are appended
abbrev pub invariant-loop-list : goal.invariant-loop-list
invariant-loop-list g l = l.all.items ≡ l.fn.all.items ++ all_in l.yielded
