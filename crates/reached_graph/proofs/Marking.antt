-- Marks by the numbers of addresses, as they are set.
use Rattle.std.proofs.Common.{◌≡◌, ℕ, Bool, true, false, List, length, get_or, set, replicate, IsSome, sym, ◌∙◌, subst, inl, inr, arith}
use Rattle.std.proofs.lemmas.Bool.{cases_eq, cases_lt, false≢true}
use Rattle.std.proofs.lemmas.List.{get_or-set_same, get_or-set_other, get_or-replicate, get_or_past, length-replicate}
use Rattle.cfg_model.specs.Program.Instructions.{InstructionMap}
use Rattle.numbered.specs.Numbering.{IsMarked, IsNumbering}
use Rattle.reached_graph.specs.Inner.Marks.{IsAdded}

module _ (map : InstructionMap) (number : ℕ → ℕ) where
  -- one mark is set
  pub set_added : (marks : List Bool) → IsNumbering map number (length marks) → (a : ℕ) → IsSome (map a) → IsAdded (IsMarked map number marks) (IsMarked map number (set marks (number a) true)) a
  set_added marks numbering a has = record {
    here = (has, here);
    kept = λ x on. (
      on.0,
      elim (cases_eq (number x) (number a)) [
        | inl same ↦ subst (λ k. get_or (set marks (number a) true) k false ≡ true) (sym same) here
        | inr other ↦ get_or-set_other marks (number a) (number x) true false other ∙ on.1
      ],
    );
    only = λ x on. elim (cases_eq (number x) (number a)) [
      | inl same ↦ inl (numbering.apart x a on.0 has same)
      | inr other ↦ inr (on.0, sym (get_or-set_other marks (number a) (number x) true false other) ∙ on.1)
    ];
  }
    where
      here : get_or (set marks (number a) true) (number a) false ≡ true
      here = get_or-set_same marks (number a) true false (numbering.below a has)

  -- none is set
  pub none_marked : (n x : ℕ) → IsMarked map number (replicate n false) x → ⊥
  none_marked n x on = elim (cases_lt (number x) n) [
    | inl within ↦ false≢true (sym (get_or-replicate n (number x) false false within) ∙ on.1)
    | inr past ↦ false≢true (sym (get_or_past (replicate n false) (number x) false (omega (arith, past, length-replicate n false))) ∙ on.1)
  ]
