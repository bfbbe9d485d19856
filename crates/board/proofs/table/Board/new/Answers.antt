use Rattle.std.proofs.Common.{◌≡◌, ℕ, List, length, ap, ◌∙◌, subst}
use Rattle.std.proofs.lemmas.List.{length-replicate}
use Rattle.cfg_model.specs.Program.Instructions.{IsLawful}
use Rattle.board.proofs.Ends.{opens}
use Rattle.board.proofs.table.Board.new.Goals as goal

pub new-requires : goal.new-requires
new-requires g c =
    rw (c.as_slice.ensures.value, c.in_ok-words.ensures)
    (opens g.J.Job.map g.J.Job.seeds c.in_ok-slots.slots.items c.in_ok-slots.ensures)

pub invariant_of-result : goal.invariant_of-result
invariant_of-result g c =
    let words : length c.as_slice.result.now ≡ 1544 = ap (λ (l : List ℕ). length l) (c.as_slice.ensures.value ∙ c.in_ok-words.ensures) ∙ length-replicate {A = ℕ} 1544 0 in (
      (c.in-Ok.ensures.ok.1 ∙ c.in_ok-slots.ensures.count, c.in-Ok.ensures.ok.0 ∙ words),
      subst IsLawful c.requires.code c.has.ensures.lawful,
    )
