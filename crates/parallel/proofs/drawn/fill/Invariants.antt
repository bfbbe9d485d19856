use Rattle.std.proofs.Common.{◌≡◌, length}
use Rattle.std.specs.List.{All}
use Rattle.parallel.specs.Inner.Drawn.{IsResultBelow, ArePlaced}
use Rattle.parallel.proofs.drawn.fill.Given as goal

-- the results so far stand in their places
abbrev pub invariant-loop-i : goal.invariant-loop-i
invariant-loop-i g l = record {
  len : length l.places ≡ length l.initial.places;
  placed : ArePlaced g.F.Fn l.f l.places;
  left : All (IsResultBelow g.F.Fn l.f (length l.places)) l.i-iterator.rest.items;
}
