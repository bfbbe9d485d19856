use Rattle.std.proofs.Common.{◌≡◌, ◌≢◌, ℕ, ◌%◌, ◌/◌, Some, sym, ap, subst, ◌∙◌, arith}
use Rattle.std.specs.Bool.{then_some}
use Rattle.std.proofs.lemmas.Grind.{common_steps}
use Rattle.elf_image.specs.declared.extensions.Extensions.{Extensions}
use Rattle.rv_flow.specs.Placed.{word_insn}
use Rattle.rv_flow.specs.Inner.{goes_on_behind}
use Rattle.rv_flow.proofs.Lengths.{short_length, longer_length, word_length}
use Rattle.rv_flow.proofs.straight.StraightForms.length.Goals as goal
use Rattle.rv_flow.proofs.straight.StraightForms.length.Goals.{then-half-eq7, else-half-eq7+in_ok-word}

pub returns-then-half-ne3-clause-answer : goal.returns-then-half-ne3-clause-answer
returns-then-half-ne3-clause-answer c = λ bytes a names at_half at_word.
    let short : c.args.half % 4 ≢ 3 = grind (arith, common_steps) in
    short_length bytes a c.args.self.now c.args.half c.args.word names at_half at_word short
    ∙ ap (λ b. then_some b 2) (sym c.short_goes_on.ensures.answer)
    ∙ sym c.then_some.ensures

pub returns-after-half-eq7-clause-answer : goal.returns-after-half-eq7-clause-answer
returns-after-half-eq7-clause-answer c = λ bytes a names at_half at_word.
    let long : c.args.half % 4 ≡ 3 = grind (arith, common_steps) in
    elim c.if-half-eq7.branch [
      | then-half-eq7 w ↦
          let longer : c.args.half / 4 % 8 ≡ 7 = grind (arith, common_steps) in
          longer_length bytes a c.args.self.now c.args.half c.args.word names at_half at_word long longer ∙ sym w.result-is
      | else-half-eq7+in_ok-word w ↦
          let whole : c.args.half / 4 % 8 ≢ 7 = grind (arith, common_steps) in
          let word : c.args.word ≡ Some w.in_ok-word.field-0 = w.in_ok-word.was in
          word_length bytes a c.args.self.now c.args.half w.in_ok-word.field-0 names at_half (at_word ∙ word) long whole
          ∙ ap (λ (e : Extensions). then_some (goes_on_behind (word_insn e w.in_ok-word.field-0)) 4) (sym c.self.view_is)
          ∙ ap (λ b. then_some b 4) (sym w.word_goes_on.ensures)
          ∙ sym w.then_some-else-half-eq7.ensures
          ∙ sym w.result-is
    ]
