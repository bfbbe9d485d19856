-- The ways from ends to leaders, one more at a time.
use Rattle.std.proofs.Common.{◌≡◌, ℕ, ◌+◌, ◌<◌, ◌≤◌, ◌⊎◌, ◌↔◌, List, [], ◌∷◌, ◌++◌, length, take, get_or, refl, sym, ap, ◌∙◌, subst, inl, inr, arith}
use Rattle.std.specs.Prelude.{Contains}
use Rattle.std.specs.List.Sorted.{IsStrictlyIncreasing}
use Rattle.std.proofs.lemmas.Bool.{cases_eq}
use Rattle.std.proofs.lemmas.List.{take_more, take_all}
use Rattle.std.proofs.lemmas.List.Elements.{Contains-append_left, Contains-push, Contains-push_cases}
use Rattle.cfg_model.specs.Graph.Listing.{Gains}
use Rattle.cfg_model.specs.Program.Instructions.{InstructionMap}
use Rattle.cfg_model.proofs.Graphs.Gaining.{Gains-none, Gains-then, Gains-same, Gains-pushed}
use Rattle.cert_make.specs.declared.exits.Exit.{Exit}
use Rattle.cert_make.specs.Reason.{GoesTo}
use Rattle.cert_make.specs.Inner.Ends.{AreExits, IsExit, IsExitOf}
use Rattle.cert_make.specs.Inner.Places.{IsAt, at}
use Rattle.cert_make.proofs.Placed.{listed_at, one_place}

exit_is : (x y : Exit) → x.end ≡ y.end → x.to ≡ y.to → x ≡ y
exit_is x y one other = ap (λ (e : ℕ). record { end = e; to = x.to }) one ∙ ap (λ (t : ℕ). record { end = y.end; to = t }) other

pub among_same : (leaders : List ℕ) (A B : ℕ → Type 0) (end : ℕ) (x : Exit) → (A (at leaders x.to) → B (at leaders x.to)) → IsExitOf leaders A end x → IsExitOf leaders B end x
among_same leaders A B end x more of = record { from = of.from; to = of.to; among = more of.among }

-- ---- those of one end

module _ (leaders targets : List ℕ) (end i : ℕ) (lt : i < length targets) (old mid : List Exit)
    (before : Gains old mid (IsExitOf leaders (Contains (take i targets)) end)) where
  abbrev pub here : ℕ
  here = get_or targets i 0

  more : (new : List Exit) → Gains old new (IsExitOf leaders (Contains (take i targets ++ here ∷ [])) end) → Gains old new (IsExitOf leaders (Contains (take (i + 1) targets)) end)
  more new gains = subst (λ xs. Gains old new (IsExitOf leaders (Contains xs) end)) (sym (take_more targets i 0 lt)) gains

  pub none_added : (Contains leaders here → ⊥) → Gains old mid (IsExitOf leaders (Contains (take (i + 1) targets)) end)
  none_added none = more mid (Gains-same old mid (IsExitOf leaders (Contains (take i targets)) end) (IsExitOf leaders (Contains (take i targets ++ here ∷ [])) end)
      (λ x of. among_same leaders (Contains (take i targets)) (Contains (take i targets ++ here ∷ [])) end x (λ c. Contains-append_left (take i targets) (here ∷ []) (at leaders x.to) c) of)
      (λ x of. elim (Contains-push_cases (take i targets) here (at leaders x.to) of.among) [
        | inl earlier ↦ record { from = of.from; to = of.to; among = earlier }
        | inr same ↦ absurd (none (listed_at leaders x.to here (record { within = of.to; is = sym same })))
      ])
      before)

  pub one_added : (rise : IsStrictlyIncreasing leaders) (to : ℕ) (x : Exit) (new : List Exit) → IsAt leaders to here → x.end ≡ end → x.to ≡ to → new ≡ mid ++ x ∷ [] → Gains old new (IsExitOf leaders (Contains (take (i + 1) targets)) end)
  one_added rise to x new there from goes is = more new (Gains-same old new (λ y. IsExitOf leaders (Contains (take i targets)) end y ⊎ (y ≡ x)) (IsExitOf leaders (Contains (take i targets ++ here ∷ [])) end)
      (λ y h. elim h [
        | inl earlier ↦ among_same leaders (Contains (take i targets)) (Contains (take i targets ++ here ∷ [])) end y (λ c. Contains-append_left (take i targets) (here ∷ []) (at leaders y.to) c) earlier
        | inr same ↦ subst (IsExitOf leaders (Contains (take i targets ++ here ∷ [])) end) (sym same) own
      ])
      (λ y of. elim (Contains-push_cases (take i targets) here (at leaders y.to) of.among) [
        | inl earlier ↦ inl (record { from = of.from; to = of.to; among = earlier })
        | inr same ↦ inr (exit_is y x (of.from ∙ sym from) (one_place leaders rise y.to to here (record { within = of.to; is = sym same }) there ∙ sym goes))
      ])
      (Gains-then old mid new (IsExitOf leaders (Contains (take i targets)) end) (λ y. y ≡ x) before (Gains-pushed mid new x is)))
    where
      own : IsExitOf leaders (Contains (take i targets ++ here ∷ [])) end x
      own = record {
        from = from;
        to = subst (λ n. n < length leaders) (sym goes) there.within;
        among = subst (λ n. Contains (take i targets ++ here ∷ []) (at leaders n)) (sym goes) (subst (Contains (take i targets ++ here ∷ [])) (sym there.is) (Contains-push (take i targets) here));
      }

pub none_first : (leaders targets : List ℕ) (end : ℕ) (exits : List Exit) → Gains exits exits (IsExitOf leaders (Contains (take 0 targets)) end)
none_first leaders targets end exits = Gains-none exits (IsExitOf leaders (Contains (take 0 targets)) end) (λ x of. let lt = of.among.1 in absurd (omega arith))

pub all_added : (leaders targets : List ℕ) (end n : ℕ) (old new : List Exit) → length targets ≤ n → Gains old new (IsExitOf leaders (Contains (take n targets)) end) → Gains old new (IsExitOf leaders (Contains targets) end)
all_added leaders targets end n old new long gains = subst (λ xs. Gains old new (IsExitOf leaders (Contains xs) end)) (take_all n targets long) gains

-- ---- those of the first so many ends

pub record IsEarly (map : InstructionMap) (leaders terms : List ℕ) (count : ℕ) (x : Exit) : Type 0 where
  pub early : x.end < count
  pub of : IsExitOf leaders (GoesTo map (at terms x.end)) x.end x

pub no_exits : (map : InstructionMap) (leaders terms : List ℕ) (exits : List Exit) → Gains exits exits (IsEarly map leaders terms 0)
no_exits map leaders terms exits = Gains-none exits (IsEarly map leaders terms 0) (λ x early. let lt = early.early in absurd (omega arith))

pub next_exits : (map : InstructionMap) (leaders terms : List ℕ) (i k : ℕ) (targets : List ℕ) (old mid new : List Exit) → get_or terms i 0 ≡ k → ((a : ℕ) → Contains targets a ↔ GoesTo map k a)
    → Gains old mid (IsEarly map leaders terms i) → Gains mid new (IsExitOf leaders (Contains targets) i) → Gains old new (IsEarly map leaders terms (i + 1))
next_exits map leaders terms i k targets old mid new is are before added =
    Gains-same old new (λ x. IsEarly map leaders terms i x ⊎ IsExitOf leaders (Contains targets) i x) (IsEarly map leaders terms (i + 1))
    (λ x h. elim h [
      | inl earlier ↦ record { early = omega (arith, earlier.early); of = earlier.of }
      | inr of ↦
          let from : x.end ≡ i = of.from in
          let term : at terms x.end ≡ k = ap (at terms) from ∙ is in
          record { early = omega arith; of = record { from = refl; to = of.to; among = subst (λ n. GoesTo map n (at leaders x.to)) (sym term) ((are (at leaders x.to)).0 of.among) } }
    ])
    (λ x one. elim (cases_eq x.end i) [
      | inl e ↦
          let term : at terms x.end ≡ k = ap (at terms) e ∙ is in
          inr (record { from = e; to = one.of.to; among = (are (at leaders x.to)).1 (subst (λ n. GoesTo map n (at leaders x.to)) term one.of.among) })
      | inr ne ↦ inl (record { early = omega (arith, one.early, ne); of = one.of })
    ])
    (Gains-then old mid new (IsEarly map leaders terms i) (IsExitOf leaders (Contains targets) i) before added)

pub all_exits : (map : InstructionMap) (leaders terms : List ℕ) (n : ℕ) (exits : List Exit) → length terms ≡ n → Gains [] exits (IsEarly map leaders terms n) → AreExits map leaders terms exits
all_exits map leaders terms n exits many gains =
    Gains-same [] exits (IsEarly map leaders terms n) (IsExit map leaders terms)
    (λ x one. record { end = omega (arith, one.early, many); of = one.of })
    (λ x one. record { early = omega (arith, one.end, many); of = one.of })
    gains
