use Rattle.std.proofs.Common.{subst}
use Rattle.elf_image.specs.declared.extensions.Extensions.{Extensions}
use Rattle.rv_flow.specs.Placed.{word_insn}
use Rattle.live_regs.specs.Effects.{labelled}
use Rattle.live_regs.specs.Inner.{AreEffectsIf, AreInsnEffects}
use Rattle.live_regs.proofs.Operands.{effects_kept, effects_of_other}
use Rattle.live_regs.proofs.words.effects_of_word.Goals as goal

pub returns-in-None : goal.returns-in-None
returns-in-None c =
    let e = c.extensions-extensions.result.now in
    subst (λ (e : Extensions). AreEffectsIf (labelled e.zicfilp (word_insn e c.args.word)) c.effects_if.result) c.extensions-extensions.ensures
    (effects_of_other e.zicfilp e c.args.word _ _ c.in-None.ensures c.decode_extension.ensures c.effects_if.ensures)

pub returns-in-Some : goal.returns-in-Some
returns-in-Some c =
    let e = c.extensions-extensions.result.now in
    subst (λ (e : Extensions). AreInsnEffects (labelled e.zicfilp (word_insn e c.args.word)) c.in-Some.effects) c.extensions-extensions.ensures
    (effects_kept e.zicfilp e c.args.word _ c.in-Some.ensures)
