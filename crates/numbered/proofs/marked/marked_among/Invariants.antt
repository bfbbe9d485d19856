use Rattle.std.proofs.Common.{◌≡◌, false, get_or, take, filter}
use Rattle.numbered.proofs.marked.marked_among.Given as goal

abbrev pub invariant-loop-a : goal.invariant-loop-a
invariant-loop-a g l = l.marked.items ≡ filter (λ x. get_or l.marks (g.C.Numbered.number l.code x) false) (take l.a-index l.addresses)
