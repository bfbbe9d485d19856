use Rattle.std.proofs.Common.{◌≡◌, ℕ, ◌+◌, ◌-◌, ◌≤◌, length, take, drop, Some, sym, ap, ap₂, ◌∙◌, arith, lit<}
use Rattle.std.specs.Option.{option_copied}
use Rattle.std.specs.List.{find}
use Rattle.std.proofs.lemmas.List.{length-take}
use Rattle.elf_image.specs.Sections.{holds_bytes}
use Rattle.elf_image.specs.ReadOnly.{data_section_of}
use Rattle.elf_image.specs.Number.{u32_at}
use Rattle.elf_image.proofs.DataFrom.{word-part}
use Rattle.elf_image.proofs.image.Image.data_from.Goals as goal
use Rattle.elf_image.proofs.image.Image.data_from.Goals.{After-file_offset-at}

-- a search of the sections that are kept finds what a data word is read of
kept : (c : After-file_offset-at) (b : ℕ) → find (holds_bytes b 4) c.self.inside.layout.read_only.sections.items ≡ data_section_of c.args.self.now b
unfolding data_section_of
kept c b = c.self.invariant.layout.read_only b 4 (lit< tt) ∙ ap (λ bytes. data_section_of bytes b) c.self.view_is

pub found_from-len-requires-clause-found : goal.found_from-len-requires-clause-found
found_from-len-requires-clause-found c =
    kept (goal.at.found_from-len-requires-clause-found c).After-file_offset-at c.args.a
    ∙ sym c.data_section.ensures.value ∙ ap option_copied c.in-Some.is

pub returns-clause-words : goal.returns-clause-words
returns-clause-words c = λ i inside.
    let len = c.found_from-len.result in
    let at = c.file_offset-at.result in
    let n : at + len - at ≡ len = omega arith in
    let part = take (at + len - at) (drop at c.deref-bytes.result.now) in
    let size : length part ≤ len = omega (arith, length-take (at + len - at) (drop at c.deref-bytes.result.now)) in
    let found = sym (kept (goal.at.returns-clause-words c).After-file_offset-at (c.args.a + i)) ∙ c.found_from-len.ensures.same i (omega (arith, size, inside)) in
    let word = word-part c.args.self.now c.in-Some.s.now c.args.a (at + len - at) i c.in-Some.ensures.found.start found (omega (arith, size, inside)) in
    word
    ∙ ap₂ (λ o bytes. Some (u32_at (take (at + len - at) (drop o bytes)) i)) (sym c.file_offset-at.ensures) (sym (c.deref-bytes.ensures.value ∙ c.self.view_is))
