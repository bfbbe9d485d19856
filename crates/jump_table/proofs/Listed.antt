-- The entries of a table, one by one.
use Rattle.std.proofs.Common.{◌≡◌, ℕ, zero, suc, ◌+◌, ◌<◌, true, false, List, [], ◌∷◌, length, Option, Some, None, is_some, refl, sym, ap, ◌∙◌, subst, arith}
use Rattle.std.specs.Prelude.{◌==◌, ◌%◌, IsSome, IfSome, slice_get}
use Rattle.std.proofs.lemmas.Bool.{cond_both}
use Rattle.jump_table.specs.declared.place.Place.{Place}
use Rattle.jump_table.specs.declared.table.Table.{Table}
use Rattle.jump_table.specs.Table.{IsTableOf, HasEntry, entry_target, targets_from, count_of, table_of_count, table_at_place, table_at, table_targets}
use Rattle.jump_table.specs.Values.{bytes_of}
use Rattle.jump_table.proofs.Targets.{there, listed, is_table}

module _ (bytes : List ℕ) (base width add : ℕ) where
  abbrev from : ℕ → ℕ → List ℕ
  from i n = targets_from bytes base width add i n

  from-suc : (i m n : ℕ) (o : Option ℕ) → m ≡ suc n → entry_target bytes base width add i ≡ o → from i m ≡ listed o (from (i + 1) n)
  from-suc i m n o is e = ap (λ k. from i k) is ∙ ap (λ p. listed p (from (i + 1) n)) e

  -- An entry that has a target counts one.
  pub count-on : (i m n : ℕ) (o : Option ℕ) → m ≡ suc n → o ≡ entry_target bytes base width add i → is_some o ≡ true → count_of (from i m) ≡ suc (count_of (from (i + 1) n))
  count-on i m n None is e some = absurd (cc)
  count-on i m n (Some t) is e some = ap count_of (from-suc i m n (Some t) is (sym e))

  -- One that has none ends them.
  pub count-off : (i m n : ℕ) (o : Option ℕ) → m ≡ suc n → o ≡ entry_target bytes base width add i → is_some o ≡ false → count_of (from i m) ≡ 0
  count-off i m n None is e none = ap count_of (from-suc i m n None is (sym e))
  count-off i m n (Some t) is e none = absurd (cc)

  -- Entry k behind entry i is where the list of the targets has it.
  pub get-from : (n i k : ℕ) → k < length (from i n) → slice_get (from i n) k ≡ entry_target bytes base width add (i + k)
  get-from zero i k h = absurd (omega arith)
  get-from (suc n) i k h = go (λ l. get-from n (i + 1) l) (entry_target bytes base width add i) refl k h
    where
      go : ((l : ℕ) → l < length (from (i + 1) n) → slice_get (from (i + 1) n) l ≡ entry_target bytes base width add (i + 1 + l))
          → (o : Option ℕ) → entry_target bytes base width add i ≡ o → (l : ℕ) → l < length (listed o (from (i + 1) n))
          → slice_get (listed o (from (i + 1) n)) l ≡ entry_target bytes base width add (i + l)
      go rest None e l h = absurd (omega arith)
      go rest (Some t) e zero h = let same : i ≡ i + 0 = omega arith in sym e ∙ ap (λ j. entry_target bytes base width add j) same
      go rest (Some t) e (suc l) h =
          let same : i + 1 + l ≡ i + suc l = omega arith in
          rest l (omega arith) ∙ ap (λ j. entry_target bytes base width add j) same

slice_get-some : (xs : List ℕ) (i : ℕ) → i < length xs → IsSome (slice_get xs i)
slice_get-some [] i h = absurd (omega arith)
slice_get-some (x ∷ xs) zero h = refl
slice_get-some (x ∷ xs) (suc i) h = slice_get-some xs i (omega arith)

module _ (bytes : List ℕ) (table : Table) (found : IsTableOf bytes table) (i : ℕ) (inside : i < table.count) where
  within : i < length (table_targets bytes table)
  within = omega (arith, (is_table bytes found.0 table found.1).counted)

  pub get-target : slice_get (table_targets bytes table) i ≡ entry_target bytes table.base table.width table.add i
  get-target = get-from bytes table.base table.width table.add table.count 0 i within ∙ ap (λ j. entry_target bytes table.base table.width table.add j) (omega arith)

  pub target-there : IsSome (entry_target bytes table.base table.width table.add i)
  target-there = sym (ap (λ o. is_some o) get-target) ∙ slice_get-some (table_targets bytes table) i within

-- ---- by the place

-- The target of an entry of the table at a place.
abbrev pub place_target : List ℕ → Place → ℕ → Option ℕ
place_target bytes place i = entry_target bytes place.base (bytes_of place.width) place.add i

module _ (bytes : List ℕ) (place : Place) where
  abbrev StandsThere : Table → Type 0
  StandsThere table = (i : ℕ) → entry_target bytes table.base table.width table.add i ≡ place_target bytes place i

  counted-stands : (count : ℕ) → IfSome (table_of_count place count) StandsThere
  counted-stands zero = tt
  counted-stands (suc n) = λ i. refl

  stands : IfSome (table_at_place bytes place) StandsThere
  stands =
      cond_both (place.base % bytes_of place.width == 0) _ None (λ o. IfSome o StandsThere)
      (λ _. counted-stands (count_of (targets_from bytes place.base (bytes_of place.width) place.add 0 place.bound)))
      (λ _. tt)

-- Where the table of a jump is the one at a place, its targets are those of the entries there.
module _ (bytes : List ℕ) (place : Place) (j i : ℕ) (at_place : table_at bytes j ≡ table_at_place bytes place) (entry : HasEntry bytes j i) where
  same-entry : entry_target bytes entry.0.base entry.0.width entry.0.add i ≡ place_target bytes place i
  same-entry = there (table_at_place bytes place) entry.0 (StandsThere bytes place) (sym at_place ∙ entry.1) (stands bytes place) i

  pub place-there : IsSome (place_target bytes place i)
  place-there = sym (ap (λ o. is_some o) same-entry) ∙ target-there bytes entry.0 (j, entry.1) i entry.2

  pub get-place : (target : ℕ) → place_target bytes place i ≡ Some target
      → IfSome (table_at bytes j) (λ table. slice_get (table_targets bytes table) i ≡ Some target)
  get-place target is =
      let P : Option Table → Type 0 = λ o. IfSome o (λ table. slice_get (table_targets bytes table) i ≡ Some target) in
      subst P (sym entry.1) (get-target bytes entry.0 (j, entry.1) i entry.2 ∙ same-entry ∙ is)
