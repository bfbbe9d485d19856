use Rattle.std.proofs.Common.{◌≡◌, ◌∙◌, Option, ap}
use Rattle.std.specs.Option.{option_and_then}
use Rattle.landing_pads.specs.declared.range.Range.{Range}
use Rattle.landing_pads.specs.Pad.{pad_at, pad_in, nearest, ranges}
use Rattle.landing_pads.proofs.ByBegin.{nearest-same}
use Rattle.landing_pads.proofs.landings.Landings.at.Goals as goal
use Rattle.landing_pads.proofs.landings.Landings.at.Goals.{After-nearest}

-- the nearest of what is kept is that of the file
whole : (c : After-nearest) (r : Option Range) → r ≡ nearest c.deref.result.now c.args.b → r ≡ nearest (ranges c.args.self.now) c.args.b
whole c r is =
    is ∙ ap (λ rs. nearest rs c.args.b) c.deref.ensures.value
    ∙ nearest-same c.args.b (ranges c.self.inside.image.now) c.self.inside.ranges.items c.self.invariant.same
    ∙ ap (λ bytes. nearest (ranges bytes) c.args.b) c.self.view_is

pub returns-in_err-r : goal.returns-in_err-r
unfolding pad_at
returns-in_err-r c =
    c.from_residual.ensures ∙ ap (option_and_then (pad_in c.args.b)) (whole (goal.at.returns-in_err-r c).After-nearest _ c.in_err-r.ensures)

pub returns : goal.returns
unfolding pad_at
returns c =
    c.pad_in.ensures ∙ ap (option_and_then (pad_in c.args.b)) (whole (goal.at.returns c).After-nearest _ c.in_ok-r.ensures)
