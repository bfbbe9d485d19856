use Rattle.std.proofs.Common.{◌≡◌, ℕ, ◌+◌, ◌-◌, ◌/◌, ◌<◌, List, take, drop, ◌∙◌, subst, arith}
use Rattle.std.proofs.lemmas.List.{length-set}
use Rattle.elf_image.specs.declared.extensions.Extensions.{Extensions}
use Rattle.elf_image.specs.Architecture.{extensions_of}
use Rattle.chain_index.proofs.Passes.{IsLengthAt, IsPassed, pass_step, reach_here}
use Rattle.chain_index.proofs.reach.pass_back.Goals as goal
use Rattle.chain_index.proofs.reach.pass_back.Goals.{After-length_at}

-- what is passed so far
so_far : (c : After-length_at) → IsPassed c.args.image.now c.args.s c.args.from (c.loop-k.k - 1 + 1) c.loop-k.near c.loop-k.far c.loop-k.part
so_far c =
    let at : c.loop-k.k ≡ c.loop-k.k - 1 + 1 = omega (arith, c.loop-k-test.true) in
    subst (λ j. IsPassed c.args.image.now c.args.s c.args.from j c.loop-k.near c.loop-k.far c.loop-k.part) at c.loop-k.invariant.passed

inside : (c : After-length_at) → c.args.from + (c.loop-k.k - 1) < c.args.s.size / 2
inside c = omega (arith, c.loop-k-test.true, c.loop-k.auto.k, c.requires.size)

-- what is found of the next halfword's instruction
here : (c : After-length_at) → IsLengthAt (extensions_of c.args.image.now) (take c.args.s.size (drop c.args.s.offset c.args.image.now)) (c.args.from + (c.loop-k.k - 1)) c.length_at.result
here c =
    let e = extensions_of c.args.image.now in
    let i : ℕ = c.args.from + (c.loop-k.k - 1) in
    let found : IsLengthAt c.loop-k.forms c.section_bytes-code.result.now i c.length_at.result = record { answer = c.length_at.ensures.answer; sizes = c.length_at.ensures.bytes } in
    subst (λ (part : List ℕ). IsLengthAt e part i c.length_at.result) c.section_bytes-code.ensures
    (subst (λ (names : Extensions). IsLengthAt names c.section_bytes-code.result.now i c.length_at.result) (c.loop-k.invariant.kept ∙ c.requires.forms) found)

pub reach_over-reach-requires : goal.reach_over-reach-requires
reach_over-reach-requires c =
    let at = (goal.at.reach_over-reach-requires c).After-length_at in
    let reach = reach_here c.args.image.now c.args.s c.requires.section c.args.from (c.loop-k.k - 1) c.loop-k.near c.loop-k.far c.loop-k.part (so_far at) (inside at) c.length_at.result (here at) in
    record { fits = omega (arith, reach.fits) }

pub loop-k-preserved : goal.loop-k-preserved
loop-k-preserved c =
    let at = (goal.at.loop-k-preserved c).After-length_at in
    record {
      passed = pass_step c.args.image.now c.args.s c.requires.section c.args.from (c.loop-k.k - 1) c.loop-k.near c.loop-k.far c.loop-k.part (so_far at) (inside at) c.length_at.result (here at) c.reach_over-reach.result c.reach_over-reach.ensures;
      size = length-set c.loop-k.part (c.loop-k.k - 1) c.reach_over-reach.result ∙ c.loop-k.invariant.size;
      kept = c.length_at.ensures.kept ∙ c.loop-k.invariant.kept;
    }
