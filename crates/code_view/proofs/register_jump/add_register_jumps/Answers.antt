use Rattle.std.proofs.Common.{◌≡◌, ℕ, ◌+◌, ◌*◌, ◌/◌, ◌<◌, ◌≤◌, List, length, sym, ap, ◌∙◌, subst, arith}
use Rattle.elf_image.specs.declared.section.Section.{Section}
use Rattle.elf_image.specs.Number.{u16_at}
use Rattle.elf_image.specs.Sections.{is_code_section}
use Rattle.chain_index.specs.Found.{IsCodeOf}
use Rattle.chain_index.proofs.CodeSections.{code-of}
use Rattle.chain_index.proofs.Spans.{length-code}
use Rattle.code_view.specs.RegisterJump.{is_register_jump, IsBetween}
use Rattle.code_view.proofs.JumpsFound.{ArePlaces, before-start, before-found, before-none, first-all, first-data, first-short}
use Rattle.code_view.proofs.register_jump.add_register_jumps.Goals as goal
use Rattle.code_view.proofs.register_jump.add_register_jumps.Goals.{After-bytes-bytes, After-first_above-place, then-not-is_code-via-then-not-is_code, then-not-is_code-via-else-not-is_code+then-section-lt2, then-is_register_jump+in_ok-push, else-is_register_jump}

-- the section is code that holds a halfword
of : (c : After-bytes-bytes) → IsCodeOf c.args.image.now c.section-section.result
of c =
    let bytes = c.args.image.now in
    let is = sym c.section-section.ensures.section in
    let code = ap is_code_section is ∙ sym c.is_code.ensures ∙ c.if-not-is_code.false in
    let size = ap (λ (t : Section). t.size) is in
    subst (IsCodeOf bytes) is (code-of bytes c.section-section.ensures.image c.args.i c.requires.section code (omega (arith, size, c.if-section-lt2.false)))

-- and its bytes are as many as its size says
size : (c : After-bytes-bytes) → length c.bytes-bytes.result.now ≡ c.section-section.result.size
size c = ap length c.bytes-bytes.ensures ∙ length-code c.args.image.now c.section-section.result (of c)

-- of its halfwords these are looked for
places : (c : After-first_above-place) → length c.bytes-bytes.result.now ≡ c.section-section.result.size → ArePlaces (IsBetween c.args.after c.args.last) c.section-section.result c.first_above-place.result c.end_up_to-end.result
places c is place within =
    let inside : place < length c.bytes-bytes.result.now / 2 = omega (arith, is, within) in
    let low = c.first_above-place.ensures place inside in
    let high = c.end_up_to-end.ensures.exact place inside in
    (λ (above, up_to). (low.0 above, high.0 up_to), λ (start, end). (low.1 start, high.1 end))

pub returns-then-not-is_code : goal.returns-then-not-is_code
returns-then-not-is_code c =
    let bytes = c.args.image.now in
    let among = IsBetween c.args.after c.args.last in
    let s = c.section-section.result in
    let is = c.section-section.ensures.section in
    let jumps = c.args.jumps.now.items in
    elim c.then-not-is_code.branch [
      | then-not-is_code-via-then-not-is_code w ↦
          first-data bytes among c.args.i s is jumps (sym c.is_code.ensures ∙ w.if-not-is_code.true) c.requires.before
      | then-not-is_code-via-else-not-is_code+then-section-lt2 w ↦
          first-short bytes among c.args.i s is jumps w.if-section-lt2.true c.requires.before
    ]

pub loop-place-init : goal.loop-place-init
loop-place-init c =
    let at = goal.at.loop-place-init c in
    let whole = at.After-bytes-bytes in
    before-start c.args.image.now (IsBetween c.args.after c.args.last) c.args.i c.section-section.result (of whole)
    c.first_above-place.result c.end_up_to-end.result (places at.After-first_above-place (size whole)) c.args.jumps.now.items c.requires.before

pub overflow_add-section : goal.overflow_add-section
overflow_add-section c =
    let whole = (goal.at.overflow_add-section c).After-bytes-bytes in
    omega (arith, (of whole).in_memory, size whole, c.loop-place-test.true, c.end_up_to-end.ensures.most)

pub loop-place-preserved : goal.loop-place-preserved
loop-place-preserved c =
    let at = goal.at.loop-place-preserved c in
    let whole = at.After-bytes-bytes in
    let bytes = c.args.image.now in
    let among = IsBetween c.args.after c.args.last in
    let s = c.section-section.result in
    let first = c.first_above-place.result in
    let end = c.end_up_to-end.result in
    let looked_for = places at.After-first_above-place (size whole) in
    let place = c.loop-place.place in
    let jumps = c.loop-place.jumps.items in
    let before = c.loop-place.invariant in
    let inside : 2 * place + 2 ≤ s.size = omega (arith, size whole, c.loop-place-test.true, c.end_up_to-end.ensures.most) in
    let told =
    ap (λ (part : List ℕ). is_register_jump (u16_at part (2 * place))) (sym c.bytes-bytes.ensures)
    ∙ ap is_register_jump (sym c.u16_at.ensures) ∙ sym c.is_register_jump.ensures in
    elim c.if-is_register_jump.branch [
      | then-is_register_jump+in_ok-push w ↦
          rw (w.jumps-is, w.in_ok-push.ensures.items) (before-found bytes among c.args.i s (of whole) first end looked_for place inside jumps
          c.loop-place.auto.place c.loop-place-test.true before (told ∙ w.if-is_register_jump.true))
      | else-is_register_jump w ↦
          rw w.jumps-is (before-none bytes among c.args.i s (of whole) first end looked_for place inside jumps before (told ∙ w.if-is_register_jump.false))
    ]

pub returns : goal.returns
returns c =
    let at = goal.at.returns c in
    let whole = at.After-bytes-bytes in
    let s = c.section-section.result in
    first-all c.args.image.now (IsBetween c.args.after c.args.last) c.args.i s c.section-section.ensures.section c.loop-place.jumps.items (of whole)
    c.first_above-place.result c.end_up_to-end.result c.loop-place.place (places at.After-first_above-place (size whole)) (omega (arith, c.loop-place-test.false)) c.loop-place.invariant
