use Rattle.std.proofs.Common.{◌∙◌, ap, sym, arith}
use Rattle.std.specs.Option.{option_and_then}
use Rattle.std.proofs.lemmas.Bool.{eqb-true}
use Rattle.std.proofs.lemmas.List.{nil_from_length}
use Rattle.landing_pads.specs.Pad.{pad_at, pad_in, nearest, ranges}
use Rattle.landing_pads.proofs.ByBegin.{nearest-same}
use Rattle.landing_pads.proofs.landings.Landings.is_empty.Goals as goal

pub returns : goal.returns
unfolding pad_at
returns c = λ empty b.
    let kept = c.self.inside.ranges.items in
    let no_length = eqb-true c.self.inside.ranges.len 0 (sym c.is_empty.ensures ∙ empty) in
    let none = nil_from_length kept (omega (arith, no_length, c.self.inside.ranges.ok.0)) in
    ap (λ bytes. option_and_then (pad_in b) (nearest (ranges bytes) b)) (sym c.self.view_is)
    ∙ ap (option_and_then (pad_in b)) (sym (nearest-same b (ranges c.self.inside.image.now) kept c.self.invariant.same) ∙ ap (λ rs. nearest rs b) none)
