-- What is found among the entries of an address map: what a look at each of them has shown.
use Rattle.std.proofs.Common.{◌≡◌, ◌⊎◌, inl, inr, ⊎_elim, ℕ, suc, ◌+◌, ◌<◌, ◌≤◌, Bool, cond, true, false, refl, List, [], ◌∷◌, ◌++◌, length, get_or, subst, sym, ap, ◌∙◌, arith, below_more}
use Rattle.std.specs.Prelude.{Option, Some, None, is_some}
use Rattle.std.specs.Ordering.{nat_cmp, eq_by_cmp}
use Rattle.std.specs.Cmp.{nat_cmp_total}
use Rattle.std.specs.List.Sorted.{IsStrictlySortedBy}
use Rattle.std.specs.Map.{lookup, keys_of}
use Rattle.std.specs.BTreeMap.{is_at}
use Rattle.std.specs.FinMap as maps
use Rattle.std.specs.FinMap.{find}
use Rattle.std.proofs.lemmas.List.{get_or_default}
use Rattle.std.proofs.lemmas.Option.{same_Some}
use Rattle.address_map.specs.Pairs.{AreApart}
use Rattle.address_map.specs.inner.Grouped.{chunk_entries, AreChunks}
use Rattle.address_map.specs.Found.{IsFoundAmong}
use Rattle.address_map.proofs.OneEntry.{is_equal}
use Rattle.address_map.proofs.Appended.{or_else, find_append}
use Rattle.address_map.proofs.PairsInRow.{stands_there}
use Rattle.address_map.proofs.PairsKept.{row_has}
use Rattle.address_map.proofs.ChunksJoined.{in_its_chunk}

module _ {X A : Type 0} (At : ℕ → X → A → Type 0) where
  -- nothing is found at the first n pairs
  abbrev pub AreDone : List (ℕ × X) → ℕ → Type 0
  AreDone es n = (i : ℕ) → i < n → (d : ℕ × X) (thing : A) → ¬ At (get_or es i d).0 (get_or es i d).1 thing

  none_found : (es : List (ℕ × X)) → AreDone es (length es) → (k : ℕ) (entry : X) → find nat_cmp k es ≡ Some entry → (thing : A) → ¬ At k entry thing
  none_found [] done k entry is thing found = cc is
  none_found (e ∷ es) done k entry is thing found =
      by (eq_by_cmp nat_cmp k e.0) refl is (λ has. none_found es (λ i below. done (suc i) (omega arith)) k entry has thing found)
    where
      by : (b : Bool) → eq_by_cmp nat_cmp k e.0 ≡ b → cond b (Some e.1) (find nat_cmp k es) ≡ Some entry → (find nat_cmp k es ≡ Some entry → ⊥) → ⊥
      by true same has rest =
          done 0 (omega arith) e thing
          (subst (λ j. At j e.1 thing) (maps.nat_cmp-IsAntisymmetric k e.0 (is_equal (nat_cmp k e.0) same)) (subst (λ x. At k x thing) (sym (same_Some e.1 entry has)) found))
      by false other has rest = rest has

  -- the pairs of a line
  module _ (es : List (ℕ × X)) (n : ℕ) where
    pub one_done : (e : ℕ × X) → n < length es → e ≡ get_or es n e → ((thing : A) → ¬ At e.0 e.1 thing) → AreDone es n → AreDone es (n + 1)
    one_done e below is none done =
        below_more (λ i. (d : ℕ × X) (thing : A) → ¬ At (get_or es i d).0 (get_or es i d).1 thing) n done
        (λ d thing found. none thing (subst (λ (p : ℕ × X). At p.0 p.1 thing) (get_or_default es n d e below ∙ sym is) found))

    module _ (m : maps.FinMap nat_cmp X) (seen : maps.from_entries es ≡ m) where
      pub found_at_pair : AreApart nat_cmp es → (e : ℕ × X) → n < length es → e ≡ get_or es n e → (thing : A) → At e.0 e.1 thing → IsFoundAmong At m thing
      found_at_pair apart e below is thing found = record {
        key = e.0;
        entry = e.1;
        has =
            sym (row_has es m seen e.0)
            ∙ subst (λ (p : ℕ × X). find nat_cmp p.0 es ≡ Some p.1) (sym is) (stands_there nat_cmp_total es apart n e below);
        there = found;
      }

      pub all_done : length es ≤ n → AreDone es n → (thing : A) → ¬ IsFoundAmong At m thing
      all_done all done thing found =
          none_found es (λ i below. done i (omega arith)) found.key found.entry (row_has es m seen found.key ∙ found.has) thing found.there

  -- the chunks of a map, of which some are still to be looked over
  abbrev pub IsFoundAhead : List (ℕ × maps.FinMap nat_cmp X) → A → Type 0
  IsFoundAhead rest thing = IsFoundAmong At (maps.from_entries (chunk_entries rest)) thing

  pub over_parts : (chunk : maps.FinMap nat_cmp X) (n : ℕ) (rest : List (ℕ × maps.FinMap nat_cmp X)) (thing : A) → IsFoundAhead ((n, chunk) ∷ rest) thing → IsFoundAmong At chunk thing ⊎ IsFoundAhead rest thing
  over_parts chunk n rest thing found =
      by (maps.get chunk found.key) refl
      (ap (λ o. or_else o (find nat_cmp found.key (chunk_entries rest))) (maps.get-entries chunk found.key)
      ∙ sym (find_append found.key (maps.entries chunk) (chunk_entries rest)) ∙ sym (maps.get-from_entries nat_cmp_total (maps.entries chunk ++ chunk_entries rest) found.key) ∙ found.has)
    where
      by : (o : Option X) → maps.get chunk found.key ≡ o → or_else o (find nat_cmp found.key (chunk_entries rest)) ≡ Some found.entry → IsFoundAmong At chunk thing ⊎ IsFoundAhead rest thing
      by (Some x) here has = inl (record { key = found.key; entry = found.entry; has = here ∙ has; there = found.there })
      by None here has = inr (record {
        key = found.key;
        entry = found.entry;
        has = maps.get-from_entries nat_cmp_total (chunk_entries rest) found.key ∙ has;
        there = found.there;
      })

  pub over_less : (chunk : maps.FinMap nat_cmp X) (n : ℕ) (rest : List (ℕ × maps.FinMap nat_cmp X)) → ((thing : A) → ¬ IsFoundAmong At chunk thing) → (thing : A) → IsFoundAhead ((n, chunk) ∷ rest) thing → IsFoundAhead rest thing
  over_less chunk n rest none thing found = ⊎_elim (λ here. absurd (none thing here)) (λ later. later) (over_parts chunk n rest thing found)

  pub over_none : (thing : A) → ¬ IsFoundAhead [] thing
  over_none thing found = none (maps.get (maps.from_entries []) found.key) (maps.get-from_entries nat_cmp_total [] found.key) found.has
    where
      none : (o : Option X) → o ≡ None → o ≡ Some found.entry → ⊥
      none o e f = cc (sym e ∙ f)

  module _ (es : List (ℕ × maps.FinMap nat_cmp X)) (m : maps.FinMap nat_cmp X) (seen : maps.from_entries (chunk_entries es) ≡ m) where
    pub all_over : (thing : A) → IsFoundAmong At m thing → IsFoundAhead es thing
    all_over thing found = subst (λ (n : maps.FinMap nat_cmp X). IsFoundAmong At n thing) (sym seen) found

    pub found_in_chunk : IsStrictlySortedBy nat_cmp (keys_of es) → AreChunks es → (n : ℕ) (chunk : maps.FinMap nat_cmp X) → lookup (is_at (nat_cmp n)) es ≡ Some chunk → (thing : A) → IsFoundAmong At chunk thing → IsFoundAmong At m thing
    found_in_chunk ordered own n chunk had thing found = record {
      key = found.key;
      entry = found.entry;
      has =
          in_its_chunk es m seen ordered own found.key n (sym (own n chunk had found.key (ap is_some found.has))) (Some chunk) had ∙ found.has;
      there = found.there;
    }
