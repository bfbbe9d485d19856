-- Blocks that are cut at some of the marks, on the way to all.
use Rattle.std.proofs.Common.{◌≡◌, ◌⊎◌, ℕ, ◌+◌, ◌-◌, ◌<◌, ◌≤◌, Bool, List, [], ◌∷◌, ◌++◌, length, get_or, set, IsSome, refl, sym, ap, ◌∙◌, subst, below_more, inl, inr, arith}
use Rattle.std.specs.Prelude.{◌↔◌, All, Contains}
use Rattle.std.proofs.lemmas.Bool.{cases_eq}
use Rattle.std.proofs.lemmas.List.{get_or-set_other, get_or-set_same, length-append, length-set}
use Rattle.std.proofs.lemmas.List.Elements.{Contains-get_or}
use Rattle.cfg_model.specs.Graph.Block.{IsLastOf}
use Rattle.cfg_model.specs.Program.Instructions.{InstructionMap}
use Rattle.numbered.specs.Numbering.{IsMarked}
use Rattle.reached_graph.specs.Inner.Cuts.{AreCutInSome, AreLastAtSome, IsLastAtSome}
use Rattle.reached_graph.proofs.Merging.{run, run_at, run_length}
use Rattle.reached_graph.proofs.Together.{both_each}

module _ (map : InstructionMap) (number : ℕ → ℕ) (marks : List Bool) where
  abbrev AreSome : List ℕ → List ℕ → Type 0
  AreSome = AreLastAtSome map number marks

  -- cut at all of them
  pub some_last : (s k : ℕ) → IsLastOf map (IsMarked map number marks) s k → IsLastAtSome map number marks s k
  some_last s k last = record { given = marks; last = last; more = λ a on. on }

  pub some_none : AreSome [] []
  some_none = record { as_many = refl; each = λ i d within. absurd (omega (arith, within)) }

  some_one : (s k : ℕ) → IsLastAtSome map number marks s k → AreSome (s ∷ []) (k ∷ [])
  some_one s k last = record {
    as_many = refl;
    each = λ i d within. below_more (λ (j : ℕ). IsLastAtSome map number marks (get_or (s ∷ []) j d) (get_or (k ∷ []) j d)) 0 (λ j less. absurd (omega (arith, less))) last i within;
  }

  some_both : (xs ks zs ls : List ℕ) → AreSome xs ks → AreSome zs ls → AreSome (xs ++ zs) (ks ++ ls)
  some_both xs ks zs ls one other = record {
    as_many = omega (arith, one.as_many, other.as_many, length-append xs zs, length-append ks ls);
    each = λ i d within. both_each (IsLastAtSome map number marks) xs zs ks ls one.as_many d d (λ k inside. one.each k d inside) (λ k inside. other.each k d inside) i within;
  }

  module _ (xs ks : List ℕ) (are : AreSome xs ks) where
    some_run : (p q : ℕ) → p ≤ q → q ≤ length xs → AreSome (run xs p q) (run ks p q)
    some_run p q up low = record {
      as_many = run_length ks p q up (omega (arith, low, are.as_many)) ∙ sym (run_length xs p q up low);
      each = λ i d within.
          let less : i < q - p = omega (arith, within, run_length xs p q up low) in
          rw (run_at xs p q up low i d less, run_at ks p q up (omega (arith, low, are.as_many)) i d less) (are.each (p + i) d (omega (arith, less, low)));
    }

    -- a run of them after some others
    pub some_more : (ys ls : List ℕ) → AreSome ys ls → (p q : ℕ) → p ≤ q → q ≤ length xs → AreSome (ys ++ run xs p q) (ls ++ run ks p q)
    some_more ys ls others p q up low = some_both ys ls (run xs p q) (run ks p q) others (some_run p q up low)

    -- one more
    pub some_push : (s k : ℕ) → IsLastAtSome map number marks s k → AreSome (xs ++ s ∷ []) (ks ++ k ∷ [])
    some_push s k last = some_both xs ks (s ∷ []) (k ∷ []) are (some_one s k last)

    -- one of them is cut at all
    module _ (i k : ℕ) (inside : i < length xs) (last : (d : ℕ) → IsLastOf map (IsMarked map number marks) (get_or xs i d) k) where
      set_here : (j d : ℕ) → j ≡ i → get_or (set ks i k) j d ≡ k
      set_here j d is = ap (λ n. get_or (set ks i k) n d) is ∙ get_or-set_same ks i k d (omega (arith, inside, are.as_many))

      pub some_set : AreSome xs (set ks i k)
      some_set = record {
        as_many = length-set ks i k ∙ are.as_many;
        each = λ j d within. elim (cases_eq j i) [
          | inl is ↦ rw (set_here j d is) (subst (λ n. IsLastAtSome map number marks (get_or xs n d) k) (sym is) (some_last (get_or xs i d) k (last d)))
          | inr other ↦ rw (get_or-set_other ks i j k d other) (are.each j d within)
        ];
      }

      pub done_set : ((j d : ℕ) → j < i → j < length xs → IsLastOf map (IsMarked map number marks) (get_or xs j d) (get_or ks j d))
          → (j d : ℕ) → j < i + 1 → j < length xs → IsLastOf map (IsMarked map number marks) (get_or xs j d) (get_or (set ks i k) j d)
      done_set done j d below within = elim (cases_eq j i) [
        | inl is ↦ rw (set_here j d is) (subst (λ n. IsLastOf map (IsMarked map number marks) (get_or xs n d) k) (sym is) (last d))
        | inr other ↦ rw (get_or-set_other ks i j k d other) (done j d (omega (arith, below, other)) within)
      ]

  -- the blocks of a range, and those that start at its joins
  module _ (joins : List ℕ) (from until : ℕ) (starts lasts : List ℕ) (some : AreCutInSome map number marks joins from until starts lasts) where
    pub some_in : AreSome starts lasts
    some_in = record {
      as_many = some.made.cut.as_many;
      each = λ i d within. record { given = some.given; last = some.made.cut.each i d within; more = some.joined.kept };
    }

    module _ (own : List ℕ) (between : (a : ℕ) → Contains own a ↔ Contains joins a × (from ≤ number a) × (number a < until)) where
      pub own_stand : All (λ a. IsSome (map a)) own
      own_stand i d within =
          let there = (between (get_or own i d)).0 (Contains-get_or own i d within) in
          (some.joined.new (get_or own i d) there.0).0.0

      pub own_apart : (a : ℕ) → Contains starts a → Contains own a → ⊥
      own_apart a there too = (some.joined.new a ((between a).0 too).0).1 ((some.made.exact a).0 there).0

      pub all_exact : (all : List ℕ) → ((a : ℕ) → Contains all a ↔ Contains starts a ⊎ Contains own a) → (a : ℕ) → Contains all a ↔ IsMarked map number marks a × (from ≤ number a) × (number a < until)
      all_exact all either a = (
        λ there. elim ((either a).0 there) [
          | inl old ↦ let is = (some.made.exact a).0 old in (some.joined.kept a is.0, is.1, is.2)
          | inr new ↦ let is = (between a).0 new in ((some.joined.new a is.0).0, is.1, is.2)
        ],
        λ is. elim (some.joined.only a is.0) [
          | inl given ↦ (either a).1 (inl ((some.made.exact a).1 (given, is.1, is.2)))
          | inr there ↦ (either a).1 (inr ((between a).1 (there, is.1, is.2)))
        ],
      )
