-- The entries of a chunk, seen as its map: what it has, and what one more entry and another value of an entry do.
use Rattle.std.proofs.Common.{◌≡◌, ◌≢◌, ℕ, ◌+◌, ◌<◌, ◌≤◌, refl, List, [], ◌∷◌, ◌++◌, length, get_or, set, subst, sym, ap, ◌∙◌, arith}
use Rattle.std.specs.Prelude.{Option, Some, None, IsSome, IfSome, IfNone, is_some, true, false, ◌⊎◌}
use mathlib.Core.Logic.{inl, inr}
use Rattle.std.specs.Ordering.{nat_cmp}
use Rattle.std.specs.FinMap as maps
use Rattle.std.specs.FinMap.{find}
use Rattle.std.proofs.lemmas.List.{length-append, length-set, get_or_append_left, get_or_past, get_or-set_same, get_or-set_other}
use Rattle.std.proofs.Math.Seq.{get_or-append_seam}
use Rattle.address_map.proofs.OneEntry.{same_or_other}
use Rattle.address_map.specs.declared.entry.Entry.{Entry}
use Rattle.address_map.specs.Least.{IsLeast, IsAbove}
use Rattle.address_map.specs.Keys.{with_new, IsKeyAbove}
use Rattle.address_map.specs.inner.Grouped.{page_of, AreTogether}
use Rattle.address_map.specs.Pairs.{AreApart, IsFirstAt}
use Rattle.address_map.specs.inner.Entries.{pairs, links, key_at, before_at, IsUpTo, AreLinked}
use Rattle.address_map.proofs.PairsInRow.{inside}
use Rattle.address_map.proofs.PairsKept.{place_there, spot_is_some, spot_is_none, row_has, row_value, row_written, written_apart, row_pushed, pushed_apart, not_in_row, added_new}
use Rattle.address_map.proofs.KeysAfter.{page_order}
use Rattle.address_map.proofs.Leasts.{least_as}
use Rattle.address_map.proofs.EntriesLinked.{length_pairs, length_links, pair_is, pairs_push, links_push, pairs_set, links_set, IsBehind, place_of_key, less_or_not}

-- what a search for an address has shown
module _ {X : Type 0} (fs es : List (Entry X)) (same : fs ≡ es) (k : ℕ) (o : Option ℕ) where
  pub first_there : IfSome o (IsFirstAt nat_cmp (pairs fs) k) → (i : ℕ) → o ≡ Some i → IsFirstAt nat_cmp (pairs es) k i
  first_there first i is =
      subst (λ xs. IsFirstAt nat_cmp (pairs xs) k i) same (subst (λ (p : Option ℕ). IfSome p (IsFirstAt nat_cmp (pairs fs) k)) is first)

  pub none_there : IfNone o (find nat_cmp k (pairs fs) ≡ None) → is_some o ≡ false → find nat_cmp k (pairs es) ≡ None
  none_there none not_found =
      ap (λ xs. find nat_cmp k (pairs xs)) (sym same) ∙ spot_is_none (pairs fs) (maps.from_entries (pairs fs)) refl k o none not_found

  module _ (m : maps.FinMap nat_cmp X) (seen : maps.from_entries (pairs es) ≡ m) where
    seen_so : maps.from_entries (pairs fs) ≡ m
    seen_so = ap (λ xs. maps.from_entries (pairs xs)) same ∙ seen

    pub known_there : IfSome o (IsFirstAt nat_cmp (pairs fs) k) → is_some o ≡ true → maps.contains_key m k ≡ true
    known_there first found = spot_is_some (pairs fs) m seen_so k o first found

    pub some_place : IfNone o (find nat_cmp k (pairs fs) ≡ None) → IsSome (maps.get m k) → IsSome o
    some_place none has = place_there (pairs fs) m seen_so k o none has

-- what is said of the first entries stays true with one more
module _ (ls : List (ℕ × ℕ)) (l : ℕ × ℕ) where
  key_stays : (i : ℕ) → i < length ls → key_at (ls ++ l ∷ []) i ≡ key_at ls i
  key_stays i below = ap (λ (x : ℕ × ℕ). x.0) (get_or_append_left ls (l ∷ []) (0, 0) i below)

  last_is : (i : ℕ) → i ≡ length ls → get_or (ls ++ l ∷ []) i (0, 0) ≡ l
  last_is i e = ap (λ j. get_or (ls ++ l ∷ []) j (0, 0)) e ∙ get_or-append_seam ls l [] (0, 0)

  up_to_stays : (bound p n : ℕ) → bound ≤ length ls → IsUpTo ls bound p n → IsUpTo (ls ++ l ∷ []) bound p n
  up_to_stays bound p n all is = record {
    within = is.within;
    last = λ i e. ap page_of (key_stays i (let within = is.within in omega arith)) ∙ is.last i e;
    rest = λ i from below same. is.rest i from below (ap page_of (sym (key_stays i (omega arith))) ∙ same);
  }

  -- the page of the one more, and another page
  up_to_last : (p n : ℕ) → page_of l.0 ≡ p → n ≡ length ls + 1 → IsUpTo (ls ++ l ∷ []) (length ls + 1) p n
  up_to_last p n page all = record {
    within = omega arith;
    last = λ i e. ap (λ (x : ℕ × ℕ). page_of x.0) (last_is i (omega arith)) ∙ page;
    rest = λ i from below. absurd (omega arith);
  }

  up_to_other : (p n : ℕ) → page_of l.0 ≢ p → IsUpTo ls (length ls) p n → IsUpTo (ls ++ l ∷ []) (length ls + 1) p n
  up_to_other p n other is = record {
    within = let within = is.within in omega arith;
    last = λ i e. ap page_of (key_stays i (let within = is.within in omega arith)) ∙ is.last i e;
    rest = λ i from below. by i from (same_or_other i (length ls)) below;
  }
    where
      by : (i : ℕ) → n ≤ i → (i ≡ length ls) ⊎ (i ≢ length ls) → i < length ls + 1 → page_of (key_at (ls ++ l ∷ []) i) ≢ p
      by i from (inl end) below same = other (ap (λ (x : ℕ × ℕ). page_of x.0) (sym (last_is i end)) ∙ same)
      by i from (inr front) below same =
          let inner : i < length ls = omega arith in is.rest i from inner (ap page_of (sym (key_stays i inner)) ∙ same)

module _ {X : Type 0} (upto : List ℕ) (es : List (Entry X)) (linked : AreLinked upto es) where
  -- another table that says the same
  pub same_linked : (us : List ℕ) → ((p : ℕ) → get_or us p 0 ≡ get_or upto p 0) → AreLinked us es
  same_linked us same = record {
    apart = linked.apart;
    table = λ p. subst (IsUpTo (links es) (length es) p) (sym (same p)) (linked.table p);
    before = linked.before;
  }

  -- other entries with the same links
  same_links : (fs : List (Entry X)) → links fs ≡ links es → length fs ≡ length es → AreApart nat_cmp (pairs fs) → AreLinked upto fs
  same_links fs same len apart = record {
    apart = apart;
    table = λ p. subst (λ ls. IsUpTo ls (length fs) p (get_or upto p 0)) (sym same) (subst (λ n. IsUpTo (links es) n p (get_or upto p 0)) (sym len) (linked.table p));
    before = λ i below. subst (λ ls. IsUpTo ls i (page_of (key_at ls i)) (before_at ls i)) (sym same) (linked.before i (subst (λ n. i < n) len below));
  }

  -- one more entry
  module _ (k : ℕ) (v : X) (none : find nat_cmp k (pairs es) ≡ None) (before : ℕ) where
    abbrev pub more : List (Entry X)
    more = es ++ record { key = k; value = v; before = before } ∷ []

    length_more : length more ≡ length es + 1
    length_more = length-append es _

    more_apart : AreApart nat_cmp (pairs more)
    more_apart = subst (AreApart nat_cmp) (sym (pairs_push es _)) (pushed_apart (pairs es) (maps.from_entries (pairs es)) refl k linked.apart v none)

    pub more_seen : (m : maps.FinMap nat_cmp X) → maps.from_entries (pairs es) ≡ m → maps.from_entries (pairs more) ≡ with_new m k v
    more_seen m seen =
        ap maps.from_entries (pairs_push es _) ∙ row_pushed (pairs es) m seen k linked.apart v none
        ∙ added_new m k v (not_in_row (pairs es) m seen k none)

    module _ (page n : ℕ) (here : page ≡ page_of k) (within : page < length upto) (one : before ≡ get_or upto page 0) (count : n ≡ length es + 1) where
      table_more : (p : ℕ) → (p ≡ page) ⊎ (p ≢ page) → IsUpTo (links es ++ (k, before) ∷ []) (length (links es) + 1) p (get_or (set upto page n) p 0)
      table_more p (inl same) =
          up_to_last (links es) (k, before) p (get_or (set upto page n) p 0) (sym here ∙ sym same)
          (ap (λ q. get_or (set upto page n) q 0) same ∙ get_or-set_same upto page n 0 within ∙ count ∙ ap (λ m. m + 1) (sym (length_links es)))
      table_more p (inr other) =
          subst (IsUpTo (links es ++ (k, before) ∷ []) (length (links es) + 1) p) (sym (get_or-set_other upto page p n 0 other))
          (up_to_other (links es) (k, before) p (get_or upto p 0) (λ same. other (sym (here ∙ same)))
          (subst (λ m. IsUpTo (links es) m p (get_or upto p 0)) (sym (length_links es)) (linked.table p)))

      before_more : (i : ℕ) → (i ≡ length es) ⊎ (i ≢ length es) → i < length es + 1
          → IsUpTo (links es ++ (k, before) ∷ []) i (page_of (key_at (links es ++ (k, before) ∷ []) i)) (before_at (links es ++ (k, before) ∷ []) i)
      before_more i (inl end) below =
          subst (λ (l : ℕ × ℕ). IsUpTo (links es ++ (k, before) ∷ []) i (page_of l.0) l.1) (sym (last_is (links es) (k, before) i (end ∙ sym (length_links es))))
          (up_to_stays (links es) (k, before) i (page_of k) before (omega (arith, end, length_links es))
          (subst (λ m. IsUpTo (links es) m (page_of k) before) (sym end)
          (subst (IsUpTo (links es) (length es) (page_of k)) (sym (one ∙ ap (λ p. get_or upto p 0) here)) (linked.table (page_of k)))))
      before_more i (inr front) below =
          let inner : i < length es = omega arith in
          let inside : i < length (links es) = omega (arith, length_links es) in
          subst (λ (l : ℕ × ℕ). IsUpTo (links es ++ (k, before) ∷ []) i (page_of l.0) l.1) (sym (get_or_append_left (links es) ((k, before) ∷ []) (0, 0) i inside))
          (up_to_stays (links es) (k, before) i (page_of (key_at (links es) i)) (before_at (links es) i) (omega arith) (linked.before i inner))

      pub more_linked : (fs : List (Entry X)) → fs ≡ more → AreLinked (set upto page n) fs
      more_linked fs is = subst (AreLinked (set upto page n)) (sym is) (record {
        apart = more_apart;
        table = λ p.
            subst (λ ls. IsUpTo ls (length more) p (get_or (set upto page n) p 0)) (sym (links_push es _))
            (subst (λ m. IsUpTo (links es ++ (k, before) ∷ []) m p (get_or (set upto page n) p 0)) (ap (λ m. m + 1) (length_links es) ∙ sym length_more) (table_more p (same_or_other p page)));
        before = λ i below.
            subst (λ ls. IsUpTo ls i (page_of (key_at ls i)) (before_at ls i)) (sym (links_push es _))
            (before_more i (same_or_other i (length es)) (subst (λ m. i < m) length_more below));
      })

  -- the entry of an address
  module _ (m : maps.FinMap nat_cmp X) (seen : maps.from_entries (pairs es) ≡ m) (k i : ℕ) (first : IsFirstAt nat_cmp (pairs es) k i) where
    pub place_inside : i < length es
    place_inside = omega (arith, inside (pairs es) k i first, length_pairs es)

    module _ (e : Entry X) (is : e ≡ get_or es i e) where
      pub entry_value : maps.get m k ≡ Some e.value
      entry_value = row_value (pairs es) m seen k linked.apart i first (e.key, e.value) (pair_is es i place_inside e is)

      -- with another value
      pub written_seen : (w : X) → maps.from_entries (pairs (set es i (record { key = e.key; value = w; before = e.before }))) ≡ maps.insert m k w
      written_seen w = ap maps.from_entries (pairs_set es i _) ∙ row_written (pairs es) m seen k linked.apart i first (e.key, e.value) (pair_is es i place_inside e is) w

      pub written_linked : (w : X) → AreLinked upto (set es i (record { key = e.key; value = w; before = e.before }))
      written_linked w =
          same_links _ (links_set es i e _ (ap (λ (f : Entry X). f.key) is) (ap (λ (f : Entry X). f.before) is)) (length-set es i _)
          (subst (AreApart nat_cmp) (sym (pairs_set es i _)) (written_apart (pairs es) m seen k linked.apart i first (e.key, e.value) (pair_is es i place_inside e is) w))

  module _ (m : maps.FinMap nat_cmp X) (seen : maps.from_entries (pairs es) ≡ m) where
    -- the least of a page
    pub least_seen : (p : ℕ) (a o : Option ℕ) → IsLeast (λ k. IsSome (find nat_cmp k (pairs es)) × IsAbove a k × (page_of k ≡ p)) o
        → IsLeast (λ k. IsKeyAbove m a k × (page_of k ≡ p)) o
    least_seen p a o least =
        least_as _ (λ k. IsKeyAbove m a k × (page_of k ≡ p)) o
        (λ k h. ((ap is_some (sym (row_has (pairs es) m seen k)) ∙ h.0, h.1), h.2))
        (λ k h. (ap is_some (row_has (pairs es) m seen k) ∙ h.0.0, h.0.1, h.1)) least

    -- the page of an address is in the table
    pub page_inside : (k : ℕ) → IsSome (maps.get m k) → page_of k < length upto
    page_inside k has = by (less_or_not (page_of k) (length upto)) (place_of_key es k (ap is_some (row_has (pairs es) m seen k) ∙ has))
      where
        by : (page_of k < length upto) ⊎ (length upto ≤ page_of k) → IsBehind es 0 k → page_of k < length upto
        by (inl below) at = below
        by (inr past) at =
            absurd ((linked.table (page_of k)).rest at.0 (subst (λ n. n ≤ at.0) (sym (get_or_past upto (page_of k) 0 past)) at.1) at.2 (ap page_of at.3))

-- a walk along the pages, in the order of the addresses
module _ {X : Type 0} (m : maps.FinMap nat_cmp X) (a : Option ℕ) where
  abbrev pub AreAhead : ℕ → Type 0
  AreAhead page = (x : ℕ) → IsKeyAbove m a x → page ≤ page_of x

  pub found_in_page : AreTogether m → (page : ℕ) → AreAhead page → (k : ℕ) → IsLeast (λ x. IsKeyAbove m a x × (page_of x ≡ page)) (Some k) → IsLeast (IsKeyAbove m a) (Some k)
  found_in_page together page ahead_of k least = (least.0.0, λ y h. by y h (same_or_other (page_of y) page))
    where
      by : (y : ℕ) → IsKeyAbove m a y → (page_of y ≡ page) ⊎ (page_of y ≢ page) → k ≤ y
      by y h (inl same) = least.1 y (h, same)
      by y h (inr other) = page_order k y (together k y least.0.0.0 h.0) (less (page_of k) (page_of y) page least.0.1 (ahead_of y h) other)
        where
          less : (p q j : ℕ) → p ≡ j → j ≤ q → q ≢ j → p < q
          less p q j same from other = omega arith

  pub past_page : (page : ℕ) → AreAhead page → IsLeast (λ x. IsKeyAbove m a x × (page_of x ≡ page)) None → AreAhead (page + 1)
  past_page page ahead_of none x h = next (page_of x) page (ahead_of x h) (λ same. none x (h, same))
    where
      next : (q j : ℕ) → j ≤ q → q ≢ j → j + 1 ≤ q
      next q j from other = omega arith

  pub past_pages : (page : ℕ) → AreAhead page → ((x : ℕ) → IsSome (maps.get m x) → page_of x < page) → IsLeast (IsKeyAbove m a) None
  past_pages page ahead_of all x h = outside (page_of x) page (ahead_of x h) (all x h.0)
    where
      outside : (q j : ℕ) → j ≤ q → q < j → ⊥
      outside q j from small = omega arith
