use Rattle.std.proofs.Common.{◌≡◌, subst, arith}
use Rattle.elf_image.specs.Header.{section_count}
use Rattle.code_view.specs.Inner.{AreJumpsOfFirst}
use Rattle.code_view.specs.RegisterJump.{IsBetween}
use Rattle.code_view.proofs.JumpsFound.{all-sections}
use Rattle.code_view.proofs.register_jump.register_jumps_between.Goals as goal

pub returns : goal.returns
returns c =
    let bytes = c.args.image.now in
    let jumps = c.loop-i.jumps.items in
    let end : c.loop-i.i ≡ section_count bytes = omega (arith, c.loop-i-test.false, c.loop-i.auto.i-end, c.section_count-i-end.ensures.count) in
    all-sections bytes c.args.after c.args.last jumps (subst (λ n. AreJumpsOfFirst bytes (IsBetween c.args.after c.args.last) n jumps) end c.loop-i.invariant)
