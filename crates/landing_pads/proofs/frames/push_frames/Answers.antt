use Rattle.std.proofs.Common.{◌+◌, length, sym, arith}
use Rattle.landing_pads.specs.Inner.{place_of}
use Rattle.landing_pads.proofs.OnceRead.{read-nothing}
use Rattle.landing_pads.proofs.Walks.{frames-start, frames-more}
use Rattle.landing_pads.proofs.frames.push_frames.Goals as goal

pub loop-body-init : goal.loop-body-init
loop-body-init c =
    (frames-start c.args.image.now (place_of c.args.section) c.args.ranges.now.items, read-nothing (place_of c.args.section) c.new-read.result c.new-read.ensures.empty)

pub loop-body-preserved : goal.loop-body-preserved
loop-body-preserved c = (
  frames-more c.args.image.now (place_of c.args.section) _ c.loop-body.ranges.items c.push_record.new.ranges.items c.loop-body.at
      (c.loop-body.at + (4 + length c.in-Some.body.bytes.now)) (place_of c.in-Some.body)
      (sym c.in-Some.ensures.value) c.in-Some.ensures.within (omega arith) c.in_ok-push_record.ensures.pushed c.loop-body.invariant.0,
  c.in_ok-push_record.ensures.after,
)
