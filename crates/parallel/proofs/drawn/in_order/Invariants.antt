use Rattle.std.proofs.Common.{◌≡◌, length}
use Rattle.std.specs.List.{All}
use Rattle.parallel.specs.Inner.Drawn.{IsResultBelow, ArePlaced}
use Rattle.parallel.proofs.drawn.in_order.Given as goal

-- the results of the lists so far stand in their places
abbrev pub invariant-loop-list : goal.invariant-loop-list
invariant-loop-list g l = record {
  len : length l.places.items ≡ l.count;
  placed : ArePlaced g.F.Fn l.f l.places.items;
  left : All (λ list. All (IsResultBelow g.F.Fn l.f l.count) list.items) l.list-iterator.rest.items;
}
