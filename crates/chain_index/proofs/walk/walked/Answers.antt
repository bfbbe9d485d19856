use Rattle.std.proofs.Common.{◌≡◌, ℕ, ◌+◌, ◌-◌, ◌/◌, ◌≤◌, ◌⊎◌, List, length, take, drop, ap, subst, ◌∙◌, arith, inl, inr}
use Rattle.elf_image.specs.declared.extensions.Extensions.{Extensions}
use Rattle.elf_image.specs.Architecture.{extensions_of}
use Rattle.chain_index.specs.Inner.{halfwords}
use Rattle.chain_index.proofs.Spans.{length-code}
use Rattle.chain_index.proofs.Passes.{IsLengthAt}
use Rattle.chain_index.proofs.Walks.{walk_on, walk_ends, reach_there}
use Rattle.chain_index.proofs.walk.walked.Goals as goal
use Rattle.chain_index.proofs.walk.walked.Goals.{Joined-then-next-at, After-length_at-length, then-next-at-via-then-next-at, then-next-at-via-else-next-at+then-next-code}

-- what is found of the instruction to which the walk has come
here : (c : After-length_at-length) → IsLengthAt (extensions_of c.args.image.now) (take c.args.s.size (drop c.args.s.offset c.args.image.now)) c.loop-at.at c.length_at-length.result
here c =
    let e = extensions_of c.args.image.now in
    let found : IsLengthAt c.loop-at.forms c.section_bytes-code.result.now c.loop-at.at c.length_at-length.result = record { answer = c.length_at-length.ensures.answer; sizes = c.length_at-length.ensures.bytes } in
    subst (λ (part : List ℕ). IsLengthAt e part c.loop-at.at c.length_at-length.result) c.section_bytes-code.ensures
    (subst (λ (names : Extensions). IsLengthAt names c.section_bytes-code.result.now c.loop-at.at c.length_at-length.result) (c.loop-at.invariant.kept ∙ c.requires.forms) found)

-- where the walk ends, nothing goes straight on from there in the section
out : (c : Joined-then-next-at) → (halfwords c.length_at-length.result ≡ 0) ⊎ (c.args.s.size / 2 ≤ c.loop-at.at + halfwords c.length_at-length.result)
out c =
    let by = c.halfwords.ensures in
    elim c.then-next-at.branch [
      | then-next-at-via-then-next-at w ↦ inl (omega (arith, by, w.if-next-at.true))
      | then-next-at-via-else-next-at+then-next-code w ↦
          inr (omega (arith, by, w.if-next-code.true, ap length c.section_bytes-code.ensures, length-code c.args.image.now c.args.s c.requires.section))
    ]

pub reach_over-requires : goal.reach_over-requires
reach_over-requires c =
    let at = (goal.at.reach_over-requires c).After-length_at-length in
    let there = reach_there c.args.image.now c.args.s c.requires.section c.args.i c.loop-at.at c.loop-at.invariant.chain c.length_at-length.result (here at) c.args.behind c.requires.behind (out c) in
    record { fits = omega (arith, there.fits) }

pub returns-then-next-at : goal.returns-then-next-at
returns-then-next-at c =
    let at = goal.at.returns-then-next-at c in
    record {
      kept = c.length_at-length.ensures.kept ∙ c.loop-at.invariant.kept;
      reach = walk_ends c.args.image.now c.args.s c.requires.section c.args.i c.loop-at.at c.loop-at.invariant.chain c.length_at-length.result (here at.After-length_at-length) c.args.behind c.requires.behind (out at.Joined-then-next-at)
          _ (ap (λ r. c.loop-at.at - c.args.i + r) c.reach_over.ensures);
    }

pub loop-at-preserved : goal.loop-at-preserved
loop-at-preserved c =
    let bytes = c.args.image.now in
    let s = c.args.s in
    let at : ℕ = c.loop-at.at in
    let size = length-code bytes s c.requires.section in
    record {
      chain = walk_on bytes s c.requires.section c.args.i at c.loop-at.invariant.chain c.length_at-length.result (here (goal.at.loop-at-preserved c).After-length_at-length) (at + c.halfwords.result)
          (ap (λ m. at + m) c.halfwords.ensures)
          (omega (arith, c.if-next-at.false))
          (omega (arith, c.if-next-code.false, ap length c.section_bytes-code.ensures, size));
      kept = c.length_at-length.ensures.kept ∙ c.loop-at.invariant.kept;
    }
