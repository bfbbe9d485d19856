-- Work that is left at one entry, by what is read of it.
use Rattle.std.proofs.Common.{◌≡◌, ℕ, true, false, subst, sym, ap, ◌∙◌}
use Rattle.std.specs.Prelude.{Option, Some, None, IsTrue, is_some}
use Rattle.std.specs.FinMap as maps
use Rattle.std.specs.FinSet as sets
use Rattle.builder_model.specs.declared.state.Mark.{Mark}
use Rattle.builder_model.specs.declared.state.Waiter.{Waiter}
use Rattle.builder_model.specs.State.{StartMap, EndEntry, TerminatorEntry}
use Rattle.builder_model.specs.Left.{Work}
use Rattle.core_state.specs.Least.{IsLeast}
use Rattle.core_state.specs.inner.Remaining.{LeftAtEnd, LeftAtTerminator}

false_is : false ≡ true → ⊥
false_is e = cc

module _ (starts : StartMap) (k : ℕ) (entry : EndEntry) where
  -- an end with a displaced start
  pub end_moves : (o : Option ℕ) → true ≡ is_some o → IsLeast (λ x. IsTrue (sets.contains entry.moved x)) o → LeftAtEnd starts k entry (Work.Move k)
  end_moves None some least = absurd (false_is (sym some))
  end_moves (Some x) some least = LeftAtEnd.displaced x least.0

  -- an end whose near start is none
  pub end_wants : (near : ℕ) → near ≡ entry.near → None ≡ maps.get starts near → LeftAtEnd starts k entry (Work.Want near)
  end_wants near is none =
      subst (λ n. LeftAtEnd starts k entry (Work.Want n)) (sym is) (LeftAtEnd.unstarted (λ has. false_is (ap is_some (none ∙ ap (maps.get starts) is) ∙ has)))

  -- an end with neither
  pub end_free : (o : Option ℕ) → false ≡ is_some o → IsLeast (λ x. IsTrue (sets.contains entry.moved x)) o → (near : ℕ) (mark : Mark) → near ≡ entry.near → Some mark ≡ maps.get starts near → (work : Work) → ¬ LeftAtEnd starts k entry work
  end_free None none least near mark is has work (LeftAtEnd.displaced x moved) = least x moved
  end_free (Some y) none least near mark is has work (LeftAtEnd.displaced x moved) = false_is none
  end_free o none least near mark is has work (LeftAtEnd.unstarted apart) = apart (sym (ap is_some (has ∙ ap (maps.get starts) is)))

module _ (k : ℕ) (entry : TerminatorEntry) where
  pub terminator_undone : entry.done ≡ false → LeftAtTerminator k entry (Work.Edges k)
  terminator_undone undone = LeftAtTerminator.undone (λ done. false_is (sym undone ∙ done))

  pub terminator_free : entry.done ≡ true → ((w : Waiter) → IsTrue entry.returned × (maps.get entry.waiters w ≡ Some false) → ⊥) → (work : Work) → ¬ LeftAtTerminator k entry work
  terminator_free done none work (LeftAtTerminator.undone apart) = apart done
  terminator_free done none work (LeftAtTerminator.untold w returned untold) = none w (returned, untold)
