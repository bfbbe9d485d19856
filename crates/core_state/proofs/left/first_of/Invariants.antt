use Rattle.std.proofs.Common.{◌≡◌}
use Rattle.std.specs.Prelude.{None, All}
use Rattle.core_state.proofs.left.first_of.Given as goal

-- nothing was left where it has looked
abbrev pub invariant-loop-left : goal.invariant-loop-left
invariant-loop-left l = All (λ left. left ≡ None) l.yielded
