-- Where two streams were found to join.
use Rattle.std.proofs.Common.{◌≡◌, ℕ, Bool, List, [], ◌∷◌, ◌++◌, sym, subst, inl, inr, arith}
use Rattle.std.specs.Prelude.{◌↔◌, Contains}
use Rattle.std.specs.List.Sorted.{IsStrictlyIncreasing}
use Rattle.std.proofs.lemmas.List.Elements.{Contains-append_left, Contains-push, Contains-push_cases}
use Rattle.cfg_model.specs.Program.Instructions.{InstructionMap}
use Rattle.numbered.specs.Numbering.{IsMarked}
use Rattle.reached_graph.specs.declared.walks.Walks.{Walks}
use Rattle.reached_graph.specs.Inner.Cuts.{AreMoreMarked}
use Rattle.reached_graph.specs.Inner.Walks.{AreJoined, IsBegun, IsJoined, IsStopped}

module _ (map : InstructionMap) (number : ℕ → ℕ) (marks : List Bool) where
  -- before any walk
  pub none_joined : (w : Walks) → w.starts.items ≡ marks → w.joins.items ≡ [] → AreJoined map number marks w
  none_joined w starts none = record {
    new = λ a there. absurd {A = IsMarked map number w.starts.items a × (¬ IsMarked map number marks a)} (omega (arith, (subst (λ xs. Contains xs a) none there).1));
    kept = λ a on. subst (λ xs. IsMarked map number xs a) (sym starts) on;
    only = λ a on. inl (subst (λ xs. IsMarked map number xs a) starts on);
  }

  module _ (old new : Walks) (are : AreJoined map number marks old) where
    -- a walk begins, or goes on
    pub begun_joined : (s : ℕ) → IsBegun map number s old new → AreJoined map number marks new
    begun_joined s begun = record {
      new = rw (begun.starts, begun.joins) are.new;
      kept = rw begun.starts are.kept;
      only = rw (begun.starts, begun.joins) are.only;
    }

    more_joined : (s : ℕ) → IsJoined map number s old new → AreJoined map number marks new
    more_joined s join = record {
      new = λ a there. elim (Contains-push_cases old.joins.items s a (subst (λ xs. Contains xs a) join.joins there)) [
        | inl was ↦ let had = are.new a was in (join.starts.kept a had.0, had.1)
        | inr e ↦ subst (λ x. IsMarked map number new.starts.items x × (¬ IsMarked map number marks x)) e (join.starts.here, λ given. join.no_start (are.kept s given))
      ];
      kept = λ a on. join.starts.kept a (are.kept a on);
      only = λ a on. elim (join.starts.only a on) [
        | inl e ↦ inr (subst (λ xs. Contains xs a) (sym join.joins) (subst (Contains (old.joins.items ++ s ∷ [])) (sym e) (Contains-push old.joins.items s)))
        | inr was ↦ elim (are.only a was) [
          | inl given ↦ inl given
          | inr there ↦ inr (subst (λ xs. Contains xs a) (sym join.joins) (Contains-append_left old.joins.items (s ∷ []) a there))
        ]
      ];
    }

    -- it stops
    pub stopped_joined : (s : ℕ) → IsStopped map number s old new → AreJoined map number marks new
    stopped_joined s stopped = elim stopped [
      | inl (starts, same) ↦ subst (AreJoined map number marks) (sym same) are
      | inr join ↦ more_joined s join
    ]

  -- with the joins in order
  pub joined_more : (w : Walks) → AreJoined map number marks w → (joins : List ℕ) → IsStrictlyIncreasing joins → ((a : ℕ) → Contains joins a ↔ Contains w.joins.items a) → AreMoreMarked map number marks joins w.starts.items
  joined_more w are joins rise same = record {
    rise = rise;
    new = λ a there. are.new a ((same a).0 there);
    kept = are.kept;
    only = λ a on. elim (are.only a on) [ inl given ↦ inl given | inr there ↦ inr ((same a).1 there) ];
  }
