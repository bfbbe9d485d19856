use Rattle.std.proofs.Common.{◌≡◌, ◌≤◌, ◌+◌, ◌-◌, length, ap, refl, ◌∙◌, arith}
use Rattle.std.specs.Vec.{with_items}
use borrow.Rule.Slice.PartMut.{put_mid}
use Rattle.rv_machine.proofs.FileParts.{length-items}
use Rattle.rv_machine.proofs.Written.{section-written, written-items}
use Rattle.rv_machine.proofs.part.Part.write_section.Goals as goal

pub returns-clause-bytes : goal.returns-clause-bytes
returns-clause-bytes c =
    let s = c.args.section.now in
    let at = s.address - c.args.self.now.start in
    let k = at + s.size - at in
    let ys = c.put_section.new.target in
    let size : s.size ≡ k = omega arith in
    let long = ap length c.put_section.ensures ∙ length-items c.args.image.now s c.requires.loaded c.requires.in_file ∙ size in
    let fits : at + k ≤ length c.deref_mut.result.now = omega (arith, ap length c.deref_mut.ensures.value, c.requires.start, c.requires.end) in
    section-written c.args.image.now s c.requires.loaded c.requires.in_file c.args.self.now
    (record { start = c.args.self.now.start; bytes = with_items c.args.self.now.bytes (put_mid at k c.deref_mut.result.now ys) })
    at k ys refl (written-items c.args.self.now.bytes c.deref_mut.result.now ys at k c.deref_mut.ensures.value fits long) refl (omega arith) c.put_section.ensures c.requires.start c.requires.end
