-- Words of private functions, which no public contract cites.
use Rattle.std.specs.List.Sorted.{IsStrictlyIncreasing}
use Rattle.cfg_model.specs.declared.graph.Function.{Function}

-- The body of the function rises.
abbrev pub HasRisingBody : Function → Type 0
HasRisingBody f = IsStrictlyIncreasing f.body
