use Rattle.std.proofs.Common.{◌≡◌, ◌∙◌, true, ap, sym, subst, arith, inl, inr}
use Rattle.elf_image.specs.declared.section.Section.{Section}
use Rattle.elf_image.specs.Sections.{section, is_code_section}
use Rattle.chain_index.specs.Found.{IsCodeOf}
use Rattle.chain_index.proofs.CodeSections.{code-of, first_more, first_none}
use Rattle.chain_index.proofs.sections.filled_sections.Goals as goal
use Rattle.chain_index.proofs.sections.filled_sections.Goals.{then-is_code+then-s-ge2+in_ok-push, else-is_code, else-is_code-via-then-is_code+else-s-ge2, else-is_code-via-else-is_code}

pub loop-i-preserved : goal.loop-i-preserved
loop-i-preserved c =
    let bytes = c.args.image.now in
    let n = c.loop-i.i in
    let xs = c.loop-i.sections.items in
    let s = c.section-s.result in
    let is = c.section-s.ensures.section in
    let so_far = c.loop-i.invariant in
    elim c.if-is_code.branch [
      | then-is_code+then-s-ge2+in_ok-push w ↦
          let code : is_code_section (section bytes n) ≡ true = ap is_code_section (sym is) ∙ sym c.is_code.ensures ∙ w.if-is_code.true in
          let size : (section bytes n).size ≡ s.size = ap (λ (t : Section). t.size) (sym is) in
          let of : IsCodeOf bytes s = subst (IsCodeOf bytes) (sym is) (code-of bytes c.section-s.ensures.image n (omega (arith, c.loop-i-test.true, c.section_count-i-end.ensures.count)) code (omega (arith, w.if-s-ge2.true))) in
          rw (w.sections-is, w.in_ok-push.ensures.items) (first_more bytes c.section-s.ensures.image n xs s (omega (arith, c.loop-i-test.true, c.section_count-i-end.ensures.count)) is (ap is_code_section is ∙ code) of so_far)
      | else-is_code w ↦ elim w.else-is_code.branch [
        | else-is_code-via-then-is_code+else-s-ge2 v ↦ rw w.sections-is (first_none bytes n xs s is (inr (omega (arith, v.if-s-ge2.false))) so_far)
        | else-is_code-via-else-is_code v ↦ rw w.sections-is (first_none bytes n xs s is (inl (sym c.is_code.ensures ∙ v.if-is_code.false)) so_far)
      ]
    ]
