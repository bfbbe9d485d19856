use Rattle.std.proofs.Common.{◌≡◌, ◌+◌, ◌∙◌, ◌&&◌, suc, get_or, drop, sym, ap, arith}
use Rattle.std.specs.Char.{to_ascii_lowercase}
use Rattle.std.proofs.lemmas.Bool.{eq-eqb, ne_eqb}
use Rattle.elf_image.specs.Architecture as spec
use Rattle.elf_image.specs.Inner.Architecture.{lower}
use Rattle.elf_image.proofs.Lower.{begins-step}
use Rattle.elf_image.proofs.names.begins.Goals as goal

pub returns-then-to_ascii_lowercase-c : goal.returns-then-to_ascii_lowercase-c
returns-then-to_ascii_lowercase-c c =
    let i = c.loop-i.i in
    let word = c.args.word.now in
    let text = c.args.text.now in
    let step = begins-step word text i c.loop-i-test.true c.loop-i.invariant.0 in
    let differs = ne_eqb (get_or word i 0) (to_ascii_lowercase (get_or text i 0)) (λ e. c.if-to_ascii_lowercase-c.true (c.to_ascii_lowercase.ensures.value ∙ sym e)) in
    sym (sym c.loop-i.invariant.1 ∙ step ∙ ap (λ b. b && spec.begins (drop (suc i) word) (drop (suc i) (lower text))) differs)

pub loop-i-preserved : goal.loop-i-preserved
loop-i-preserved c =
    let i = c.loop-i.i in
    let word = c.args.word.now in
    let text = c.args.text.now in
    let step = begins-step word text i c.loop-i-test.true c.loop-i.invariant.0 in
    let same = eq-eqb (get_or word i 0) (to_ascii_lowercase (get_or text i 0)) (sym c.if-to_ascii_lowercase-c.false ∙ c.to_ascii_lowercase.ensures.value) in
    let next : i + 1 ≡ suc i = omega arith in (
      c.loop-i.invariant.0,
      ap (λ k. spec.begins (drop k word) (drop k (lower text))) next
          ∙ sym (step ∙ ap (λ b. b && spec.begins (drop (suc i) word) (drop (suc i) (lower text))) same) ∙ c.loop-i.invariant.1,
    )
