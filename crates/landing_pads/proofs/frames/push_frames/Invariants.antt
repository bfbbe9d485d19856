use Rattle.std.proofs.Common.{◌++◌, ◌-◌, length}
use Rattle.std.specs.List.{flat_map}
use Rattle.landing_pads.specs.Inner.{place_of, AreRead}
use Rattle.landing_pads.specs.Frame.{frames}
use Rattle.landing_pads.specs.Table.{frame_ranges}
use Rattle.landing_pads.proofs.Walks.{FramesLeft}
use Rattle.landing_pads.proofs.frames.push_frames.Given as goal

abbrev pub invariant-loop-body : goal.invariant-loop-body
invariant-loop-body l =
    FramesLeft l.image (place_of l.section) (l.fn.ranges.items ++ flat_map (frame_ranges l.image) (frames (place_of l.section)))
    l.ranges.items l.at
    × AreRead (place_of l.section) l.read

abbrev pub decreases-loop-body : goal.decreases-loop-body
decreases-loop-body l = length l.section.bytes.now - l.at
