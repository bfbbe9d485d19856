use Rattle.std.proofs.Common.{◌≡◌, ℕ, ◌+◌, ◌-◌, List, Some, sym, ap, ◌∙◌, arith}
use Rattle.elf_image.specs.Number.{u16_at, u32_at}
use Rattle.chain_index.proofs.Spans.{u16-part, u32-part}
use Rattle.chain_index.proofs.lookup.SectionReaches.bytes_at.Goals as goal

pub returns : goal.returns
returns c =
    let bytes = c.args.image.now in
    let at : ℕ = c.args.self.now.offset + (c.args.a - c.args.self.now.address) in
    let first : at ≡ at + 0 = omega arith in
    record {
      half = c.requires.half
          ∙ ap (λ o. Some (u16_at bytes o)) first
          ∙ ap Some (sym (u16-part bytes at 4 0 (omega arith)))
          ∙ ap (λ (part : List ℕ). Some (u16_at part 0)) (sym c.bytes-bytes.ensures)
          ∙ ap Some (sym c.u16_at.ensures);
      word = c.requires.word (omega (arith, c.if-a-self.false, c.len.ensures))
          ∙ ap (λ o. Some (u32_at bytes o)) first
          ∙ ap Some (sym (u32-part bytes at 4 0 (omega arith)))
          ∙ ap (λ (part : List ℕ). Some (u32_at part 0)) (sym c.bytes-bytes.ensures)
          ∙ ap Some (sym c.u32_at.ensures);
    }
