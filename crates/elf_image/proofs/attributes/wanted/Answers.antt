use Rattle.std.proofs.Common.{sym}
use Rattle.elf_image.specs.Attributes.{wanted}
use Rattle.elf_image.specs.Inner.Attributes.{reader, record_of}
use Rattle.elf_image.proofs.Records.{left-here, left-more, left-end}
use Rattle.elf_image.proofs.attributes.wanted.Goals as goal

pub returns-then-r : goal.returns-then-r
returns-then-r c =
    left-here (reader c.args.kind) (wanted (reader c.args.kind) c.args.bytes.now) c.loop-r.rest.now (record_of c.in-Some.r)
    (sym c.in-Some.ensures.value) c.if-r.true c.in-Some.ensures.shorter c.loop-r.invariant

pub loop-r-preserved : goal.loop-r-preserved
loop-r-preserved c =
    left-more (reader c.args.kind) (wanted (reader c.args.kind) c.args.bytes.now) c.loop-r.rest.now (record_of c.in-Some.r)
    (sym c.in-Some.ensures.value) c.if-r.false c.in-Some.ensures.shorter c.loop-r.invariant

pub returns : goal.returns
returns c =
    left-end (reader c.args.kind) (wanted (reader c.args.kind) c.args.bytes.now) c.loop-r.rest.now (sym c.in_default.ensures.value) c.loop-r.invariant
