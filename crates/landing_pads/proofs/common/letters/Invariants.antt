use Rattle.std.proofs.Common.{◌≡◌, drop}
use Rattle.landing_pads.specs.Inner.{place_of}
use Rattle.landing_pads.specs.Common as spec
use Rattle.landing_pads.proofs.common.letters.Given as goal

abbrev pub invariant-loop-l : goal.invariant-loop-l
invariant-loop-l l =
    spec.letters (drop l.l-index l.letters) l.common (place_of l.rest) ≡ spec.letters l.letters spec.plain (place_of l.cursor)
