use Rattle.std.proofs.lemmas.Bool.Decides.{when_true, when_false}
use Rattle.elf_image.specs.Inner.AddressIndex.{IsLaidOut, HasOverhang}
use Rattle.elf_image.proofs.LaidOut.{prepared-finds, prepared-apart, prepared-overlap}
use Rattle.elf_image.proofs.address_index.AddressIndex.new.Goals as goal

pub returns-then-is_laid_out-clause-same : goal.returns-then-is_laid_out-clause-same
returns-then-is_laid_out-clause-same c =
    prepared-finds c.args.sections.items c.in_ok-sorted.sorted.items c.deref.result.now c.deref-2.result.now
    c.deref.ensures.value c.deref-2.ensures.value c.in_ok-sorted.ensures.permutation
    (when_true (IsLaidOut c.deref-2.result.now) (HasOverhang c.deref-2.result.now) c.if-is_laid_out.true c.is_laid_out.ensures)

pub returns-then-is_laid_out-clause-overlap : goal.returns-then-is_laid_out-clause-overlap
returns-then-is_laid_out-clause-overlap c =
    prepared-apart c.args.sections.items c.in_ok-sorted.sorted.items c.deref.result.now c.deref-2.result.now
    c.deref.ensures.value c.deref-2.ensures.value c.in_ok-sorted.ensures.permutation
    (when_true (IsLaidOut c.deref-2.result.now) (HasOverhang c.deref-2.result.now) c.if-is_laid_out.true c.is_laid_out.ensures)

pub returns-clause-overlap : goal.returns-clause-overlap
returns-clause-overlap c =
    prepared-overlap c.args.sections.items c.in_ok-sorted.sorted.items c.deref.result.now c.deref-2.result.now
    c.deref.ensures.value c.deref-2.ensures.value c.in_ok-sorted.ensures.permutation
    c.in_ok-sorted.ensures.sorted c.requires
    (when_false (IsLaidOut c.deref-2.result.now) (HasOverhang c.deref-2.result.now) c.if-is_laid_out.false c.is_laid_out.ensures)
