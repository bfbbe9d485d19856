use Rattle.std.proofs.Common.{◌≡◌, ℕ, ◌+◌, ◌%◌, ◌<◌, ◌^◌, true, false, List, Option, Some, None, is_some, cond, eq-eqb, eqb, sym, ap, ◌∙◌, arith, lit<}
use Rattle.std.specs.Prelude.{IfSome}
use Rattle.std.specs.List.{find}
use Rattle.std.proofs.lemmas.Bool.{ne_eqb}
use Rattle.elf_image.specs.declared.section.Section.{Section}
use Rattle.elf_image.specs.Sections.{sections}
use Rattle.elf_image.specs.Code.{is_code, is_code_section_of, code_section_of}
use Rattle.elf_image.specs.Inner.Found.{IsFoundAt}
use Rattle.elf_image.proofs.Accepted.{code_section-found}
use Rattle.elf_image.proofs.image.Image.is_code.Goals as goal

-- of an even address the code sections tell, and an odd one is no code address
even-code : (bytes : List ℕ) (a : ℕ) → a % 2 ≡ 0 → is_some (find (is_code_section_of a) (sections bytes)) ≡ is_code bytes a
unfolding code_section_of
even-code bytes a even = ap (λ t. is_some (cond t (find (is_code_section_of a) (sections bytes)) None)) (sym (eq-eqb (a % 2) 0 even))

odd-code : (bytes : List ℕ) (a : ℕ) → eqb (a % 2) 0 ≡ false → false ≡ is_code bytes a
unfolding code_section_of
odd-code bytes a odd = ap (λ t. is_some (cond t (find (is_code_section_of a) (sections bytes)) None)) (sym odd)

-- code lies below the end of memory
below : (bytes : List ℕ) (a : ℕ) (o : Option Section) → IfSome o (IsFoundAt bytes a 2) → is_some o ≡ true → a + 2 < 2 ^ 64
below bytes a None found code = absurd (cc)
below bytes a (Some s) found code = omega (arith, found.end, found.in_memory)

pub returns-then-a-eq0-clause-value : goal.returns-then-a-eq0-clause-value
returns-then-a-eq0-clause-value c =
    c.has.ensures ∙ ap (λ o. is_some o) (c.self.invariant.layout.code c.args.a 2 (lit< tt))
    ∙ even-code c.self.inside.bytes.items c.args.a c.if-a-eq0.true
    ∙ ap (λ bytes. is_code bytes c.args.a) c.self.view_is

pub returns-then-a-eq0-clause-in_memory : goal.returns-then-a-eq0-clause-in_memory
returns-then-a-eq0-clause-in_memory c = λ code.
    let bytes = c.self.inside.bytes.items in
    let is = ap (λ file. is_code file c.args.a) c.self.view_is ∙ sym (returns-then-a-eq0-clause-value c) ∙ code in
    below bytes c.args.a (code_section_of bytes c.args.a) (code_section-found bytes c.self.invariant.image c.args.a) is

pub returns-else-a-eq0-clause-value : goal.returns-else-a-eq0-clause-value
returns-else-a-eq0-clause-value c =
    let odd = ne_eqb (c.args.a % 2) 0 c.if-a-eq0.false in
    odd ∙ odd-code c.args.self.now c.args.a odd
