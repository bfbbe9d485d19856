use Rattle.std.proofs.Common.{List, length, get_or, sym, ap, ◌∙◌, arith}
use Rattle.std.specs.List.{Contains}
use Rattle.std.proofs.lemmas.Bool.{ltb-true}
use Rattle.elf_image.specs.declared.section.Section.{Section}
use Rattle.elf_image.specs.Sections.{holds_bytes}
use Rattle.elf_image.proofs.Finds.{is_some-find, any-contained}
use Rattle.elf_image.proofs.address_index.AddressIndex.is_in_widest.Goals as goal

pub returns-in-Some : goal.returns-in-Some
returns-in-Some c = λ holds.
    let p = holds_bytes c.args.a c.args.n in
    let xs = c.args.self.now.sections.items in
    let at = c.in-Some.ensures.lookup in
    let read = ap (λ (ys : List Section). get_or ys c.args.self.now.widest c.in-Some.s.now) c.deref.ensures.value in
    let there : Contains xs c.in-Some.s.now = (c.args.self.now.widest, omega (arith, ltb-true _ _ (sym at.0), ap length c.deref.ensures.value), sym read ∙ sym at.1) in
    is_some-find p xs ∙ any-contained p xs c.in-Some.s.now there (sym c.holds_bytes.ensures ∙ holds)
