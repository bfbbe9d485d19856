use Rattle.std.proofs.Common.{◌≡◌, ℕ, ◌∙◌, sym, subst, take, drop, length, ◌++◌, List, get_or, arith}
use Rattle.std.specs.Prelude.{All, Ok}
use Rattle.std.proofs.lemmas.List.{take_more}
use Rattle.state_marks.proofs.Marking.{none_marked, one_part, part_made}
use Rattle.state_marks.specs.Inner.Seen.{AreMarksOf}
use Rattle.state_marks.specs.Inner.Parts.{Answered, IsMade, InParts, numbers_of}
use Rattle.state_marks.proofs.marks.marked_in.Goals as goal

pub loop-part-init : goal.loop-part-init
loop-part-init c = record {
  made = λ k d below. absurd (omega (arith, below));
  marks = none_marked c.args.count (numbers_of c.args.kind) c.in_ok-marks.marks.items (c.in_ok-marks.ensures.items_if_clones_equal (λ _ same. same));
}

pub loop-part-preserved : goal.loop-part-preserved
loop-part-preserved c =
    let parts : List Answered = c.args.parts.now in
    let i : ℕ = c.loop-part.part-index in
    let part : Answered = get_or parts i c.part-item.result in
    let is : part ≡ Ok c.in-Ok.seen = sym c.part-item.is ∙ c.in-Ok.is in
    let more = take_more parts i c.part-item.result c.loop-part-test.true in
    record {
      made = subst (All IsMade) (sym more) (part_made (take i parts) part c.in-Ok.seen is c.loop-part.invariant.made);
      marks = subst (λ (ps : List Answered). AreMarksOf c.args.count (InParts (numbers_of c.args.kind) ps) (take c.loop-part.marks.len (c.mark.new.marks ++ drop (length c.mark.new.marks) c.loop-part.marks.items))) (sym more)
          (one_part c.args.count (numbers_of c.args.kind) (take i parts) part c.in-Ok.seen is c.loop-part.marks.items c.mark.new.marks c.loop-part.marks.len c.loop-part.marks.ok.0 c.loop-part.invariant.marks (rw c.numbers.ensures at (rw c.deref_mut.ensures.value at c.mark.ensures)));
    }
