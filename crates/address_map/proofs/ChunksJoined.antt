-- Chunks of a map: what the whole has is what the chunk of the key's number has, and a change of one entry
-- in its chunk is that change of the whole.
use Rattle.std.proofs.Common.{◌≡◌, ◌≢◌, ℕ, Bool, cond, true, false, refl, List, [], ◌∷◌, subst, sym, ap, ◌∙◌}
use Rattle.std.specs.Prelude.{Option, Some, None, IsSome, is_some, ◌⊎◌}
use mathlib.Core.Logic.{inl, inr}
use Rattle.std.specs.Borrow.{MutBor}
use Rattle.std.specs.Option.{option_copied_mut}
use Rattle.std.specs.List.{AllByRecursion}
use Rattle.std.specs.List.Sorted.{IsStrictlySortedBy}
use Rattle.std.specs.declared.cmp.Ordering.TheVariants.{Less}
use Rattle.std.specs.Ordering.{nat_cmp, is_eq, eq_by_cmp}
use Rattle.std.specs.Cmp.{nat_cmp_total, unsigned_tied}
use Rattle.std.proofs.lemmas.Bool.{eq-eqb, ne_eqb}
use Rattle.std.specs.FinMap as maps
use Rattle.std.specs.FinMap.{find}
use Rattle.std.specs.BTreeMap.{is_at}
use Rattle.std.specs.Map.{lookup, keys_of}
use Rattle.std.proofs.lemmas.Option.{same_Some}
use Rattle.address_map.proofs.OneEntry.{same_or_other, get_apart}
use Rattle.address_map.specs.Pairs.{AreApart}
use Rattle.address_map.specs.Keys.{with_new}
use Rattle.address_map.specs.inner.Grouped.{chunk_of, chunk_entries, AreChunks}
use Rattle.address_map.proofs.Seen.{PutsAt}
use Rattle.address_map.proofs.OneEntry.{alter}
use Rattle.address_map.proofs.Appended.{or_else, or_none, none_of, find_append}
use Rattle.address_map.proofs.PartsJoined.{new_local}

tied_other : (q k : ℕ) → q ≢ k → eq_by_cmp nat_cmp q k ≡ false
tied_other q k apart = unsigned_tied q k ∙ ne_eqb q k apart

tied_same : (k : ℕ) → eq_by_cmp nat_cmp k k ≡ true
tied_same k = unsigned_tied k k ∙ eq-eqb k k refl

abbrev Chunks : Type 0 → Type 0
Chunks X = List (ℕ × maps.FinMap nat_cmp X)

-- each chunk has only keys of its number
abbrev AreOwned : {X : Type 0} → Chunks X → Type 0
AreOwned [] = Unit {0}
AreOwned (e ∷ es) = ((a : ℕ) → IsSome (maps.get e.1 a) → chunk_of a ≡ e.0) × AreOwned es

module _ {X : Type 0} where
  -- keys in order are apart
  none_below : (x : ℕ) (es : Chunks X) → AllByRecursion (λ y. nat_cmp x y ≡ Less) (keys_of es) → find nat_cmp x es ≡ None
  none_below x [] all = refl
  none_below x (e ∷ es) all = ap (λ r. cond (is_eq r) (Some e.1) (find nat_cmp x es)) all.0 ∙ none_below x es all.1

  apart_of : (es : Chunks X) → IsStrictlySortedBy nat_cmp (keys_of es) → AreApart nat_cmp es
  unfolding IsStrictlySortedBy
  apart_of [] sorted = tt
  apart_of (e ∷ es) sorted = (none_below e.0 es sorted.0, apart_of es sorted.1)

  -- a look-up at the number of the first chunk, and at another one
  at_first : (e : ℕ × maps.FinMap nat_cmp X) (es : Chunks X) (n : ℕ) → n ≡ e.0 → lookup (is_at (nat_cmp n)) (e ∷ es) ≡ Some e.1
  at_first e es n same =
      subst (λ j. lookup (is_at (nat_cmp j)) (e ∷ es) ≡ Some e.1) (sym same) (ap (λ b. cond b (Some e.1) (lookup (is_at (nat_cmp e.0)) es)) (tied_same e.0))

  at_rest : (e : ℕ × maps.FinMap nat_cmp X) (es : Chunks X) (n : ℕ) → n ≢ e.0 → lookup (is_at (nat_cmp n)) (e ∷ es) ≡ lookup (is_at (nat_cmp n)) es
  at_rest e es n other = ap (λ b. cond b (Some e.1) (lookup (is_at (nat_cmp n)) es)) (tied_other n e.0 other)

  owned_of : (es : Chunks X) → AreApart nat_cmp es → AreChunks es → AreOwned es
  owned_of [] apart own = tt
  owned_of (e ∷ es) apart own = (own e.0 e.1 (at_first e es e.0 refl), owned_of es apart.1 (λ n chunk had. own n chunk (later n chunk had (same_or_other n e.0))))
    where
      later : (n : ℕ) (chunk : maps.FinMap nat_cmp X) → lookup (is_at (nat_cmp n)) es ≡ Some chunk → (n ≡ e.0) ⊎ (n ≢ e.0) → lookup (is_at (nat_cmp n)) (e ∷ es) ≡ Some chunk
      later n chunk had (inl same) = cc (sym apart.0 ∙ ap (λ x. find nat_cmp x es) (sym same) ∙ had)
      later n chunk had (inr other) = at_rest e es n other ∙ had

  abbrev pub at_chunk : Option (maps.FinMap nat_cmp X) → ℕ → Option X
  at_chunk None q = None
  at_chunk (Some chunk) q = maps.get chunk q

  read_list : (es : Chunks X) → AreApart nat_cmp es → AreOwned es → (q : ℕ) → find nat_cmp q (chunk_entries es) ≡ at_chunk (lookup (is_at (nat_cmp (chunk_of q))) es) q
  read_list [] apart own q = refl
  read_list (e ∷ es) apart own q =
      find_append q (maps.entries e.1) (chunk_entries es) ∙ (λ i. or_else (sym (maps.get-entries e.1 q) i) (read_list es apart.1 own.1 q i)) ∙ by (same_or_other (chunk_of q) e.0)
    where
      by : (chunk_of q ≡ e.0) ⊎ (chunk_of q ≢ e.0) → or_else (maps.get e.1 q) (at_chunk (lookup (is_at (nat_cmp (chunk_of q))) es) q) ≡ at_chunk (lookup (is_at (nat_cmp (chunk_of q))) (e ∷ es)) q
      by (inl same) =
          ap (λ o. or_else (maps.get e.1 q) (at_chunk o q)) (ap (λ n. lookup (is_at (nat_cmp n)) es) same ∙ apart.0) ∙ or_none (maps.get e.1 q)
          ∙ sym (ap (λ o. at_chunk o q) (at_first e es (chunk_of q) same))
      by (inr other) =
          ap (λ o. or_else o (at_chunk (lookup (is_at (nat_cmp (chunk_of q))) es) q)) (none_of (maps.get e.1 q) (λ has. other (own.0 q has)))
          ∙ sym (ap (λ o. at_chunk o q) (at_rest e es (chunk_of q) other))

  abbrev pub or_empty : Option (maps.FinMap nat_cmp X) → maps.FinMap nat_cmp X
  or_empty None = maps.empty
  or_empty (Some chunk) = chunk

  get_or_empty : (o : Option (maps.FinMap nat_cmp X)) (q : ℕ) → maps.get (or_empty o) q ≡ at_chunk o q
  get_or_empty None q = maps.get-empty nat_cmp q
  get_or_empty (Some chunk) q = refl

  get_alter : (v : Option X) (a b : maps.FinMap nat_cmp X) (k q : ℕ) → maps.get a q ≡ maps.get b q → maps.get (alter v a k) q ≡ maps.get (alter v b k) q
  get_alter None a b k q same = same
  get_alter (Some x) a b k q same = maps.get-insert nat_cmp_total a k x q ∙ ap (cond _ (Some x)) same ∙ sym (maps.get-insert nat_cmp_total b k x q)

  alter_apart : (v : Option X) (m : maps.FinMap nat_cmp X) (k q : ℕ) → q ≢ k → maps.get (alter v m k) q ≡ maps.get m q
  alter_apart None m k q apart = refl
  alter_apart (Some x) m k q apart = get_apart m k x q apart

module _ {X : Type 0} (es : List (ℕ × maps.FinMap nat_cmp X)) (m : maps.FinMap nat_cmp X) (seen : maps.from_entries (chunk_entries es) ≡ m) (ordered : IsStrictlySortedBy nat_cmp (keys_of es)) (own : AreChunks es) where
  -- the whole map has at a key what the chunk of its number has
  pub read_chunks : (q : ℕ) → maps.get m q ≡ at_chunk (lookup (is_at (nat_cmp (chunk_of q))) es) q
  read_chunks q =
      sym (ap (λ n. maps.get n q) seen) ∙ maps.get-from_entries nat_cmp_total (chunk_entries es) q
      ∙ read_list es (apart_of es ordered) (owned_of es (apart_of es ordered) own) q

  pub in_its_chunk : (k n : ℕ) → n ≡ chunk_of k → (o : Option (maps.FinMap nat_cmp X)) → lookup (is_at (nat_cmp n)) es ≡ o → maps.get m k ≡ at_chunk o k
  in_its_chunk k n home o had = read_chunks k ∙ ap (λ p. at_chunk p k) (ap (λ j. lookup (is_at (nat_cmp j)) es) (sym home) ∙ had)

  module _ (k n : ℕ) (home : n ≡ chunk_of k) (old : Option (maps.FinMap nat_cmp X)) (had : lookup (is_at (nat_cmp n)) es ≡ old)
      (new : maps.FinMap nat_cmp X) (v : Option X) (is : new ≡ alter v (or_empty old) k)
      (fs : List (ℕ × maps.FinMap nat_cmp X)) (puts : PutsAt nat_cmp es fs n new) where
    old_own : (a : ℕ) → IsSome (maps.get (or_empty old) a) → chunk_of a ≡ n
    old_own a has = by old had (ap is_some (sym (get_or_empty old a)) ∙ has)
      where
        by : (o : Option (maps.FinMap nat_cmp X)) → lookup (is_at (nat_cmp n)) es ≡ o → IsSome (at_chunk o a) → chunk_of a ≡ n
        by None e has = cc has
        by (Some chunk) e has = own n chunk e a has

    new_own : (a : ℕ) → IsSome (maps.get new a) → chunk_of a ≡ n
    new_own a has = by (same_or_other a k) (ap (λ c. is_some (maps.get c a)) (sym is) ∙ has)
      where
        by : (a ≡ k) ⊎ (a ≢ k) → IsSome (maps.get (alter v (or_empty old) k) a) → chunk_of a ≡ n
        by (inl same) has = ap chunk_of same ∙ sym home
        by (inr apart) has = old_own a (ap is_some (sym (alter_apart v (or_empty old) k a apart)) ∙ has)

    here : (c : ℕ) → c ≡ n → lookup (is_at (nat_cmp c)) fs ≡ Some new
    here c same = puts c ∙ ap (λ b. cond b (Some new) (lookup (is_at (nat_cmp c)) es)) (ap (λ j. is_at (nat_cmp n) j) same ∙ tied_same n)

    elsewhere : (c : ℕ) → c ≢ n → lookup (is_at (nat_cmp c)) fs ≡ lookup (is_at (nat_cmp c)) es
    elsewhere c other = puts c ∙ ap (λ b. cond b (Some new) (lookup (is_at (nat_cmp c)) es)) (tied_other n c (λ e. other (sym e)))

    pub still_chunks : AreChunks fs
    still_chunks c chunk found a has = by (same_or_other c n)
      where
        by : (c ≡ n) ⊎ (c ≢ n) → chunk_of a ≡ c
        by (inl same) = new_own a (ap (λ o. is_some (maps.get o a)) (same_Some new chunk (sym (here c same) ∙ found)) ∙ has) ∙ sym same
        by (inr other) = own c chunk (sym (elsewhere c other) ∙ found) a has

    module _ (ordered_new : IsStrictlySortedBy nat_cmp (keys_of fs)) where
      read_new : (q : ℕ) → maps.get (maps.from_entries {R = nat_cmp} (chunk_entries fs)) q ≡ at_chunk (lookup (is_at (nat_cmp (chunk_of q))) fs) q
      read_new q =
          maps.get-from_entries nat_cmp_total (chunk_entries fs) q ∙ read_list fs (apart_of fs ordered_new) (owned_of fs (apart_of fs ordered_new) still_chunks) q

      at_each : (q : ℕ) → (chunk_of q ≡ n) ⊎ (chunk_of q ≢ n) → maps.get (maps.from_entries {R = nat_cmp} (chunk_entries fs)) q ≡ maps.get (alter v m k) q
      at_each q (inl same) =
          read_new q ∙ ap (λ o. at_chunk o q) (here (chunk_of q) same) ∙ ap (λ c. maps.get c q) is
          ∙ get_alter v (or_empty old) m k q
          (get_or_empty old q ∙ ap (λ o. at_chunk o q) (sym had ∙ ap (λ j. lookup (is_at (nat_cmp j)) es) (sym same)) ∙ sym (read_chunks q))
      at_each q (inr other) =
          read_new q ∙ ap (λ o. at_chunk o q) (elsewhere (chunk_of q) other) ∙ sym (read_chunks q)
          ∙ sym (alter_apart v m k q (λ e. other (ap chunk_of e ∙ sym home)))

      pub whole_altered : maps.from_entries (chunk_entries fs) ≡ alter v m k
      whole_altered = maps.same_map nat_cmp_total maps.nat_cmp-IsAntisymmetric _ _ (λ q. at_each q (same_or_other (chunk_of q) n))

  module _ (k n : ℕ) (home : n ≡ chunk_of k) (old : Option (maps.FinMap nat_cmp X)) (had : lookup (is_at (nat_cmp n)) es ≡ old) where
    same_here : maps.get (or_empty old) k ≡ maps.get m k
    same_here = get_or_empty old k ∙ sym (in_its_chunk k n home old had)

    module _ (x : X) (new : maps.FinMap nat_cmp X) (is : new ≡ with_new (or_empty old) k x) (fs : List (ℕ × maps.FinMap nat_cmp X)) (puts : PutsAt nat_cmp es fs n new) where
      local : new ≡ alter ((new_local k x).pick (maps.get (or_empty old) k)) (or_empty old) k
      local = is ∙ (new_local k x).is (or_empty old)

      pub still_added : AreChunks fs
      still_added = still_chunks k n home old had new _ local fs puts

      pub whole_added : IsStrictlySortedBy nat_cmp (keys_of fs) → maps.from_entries (chunk_entries fs) ≡ with_new m k x
      whole_added sorted =
          whole_altered k n home old had new _ local fs puts sorted ∙ ap (λ o. alter ((new_local k x).pick o) m k) same_here ∙ sym ((new_local k x).is m)

    pub answered : (b : Bool) → maps.contains_key (or_empty old) k ≡ b → maps.contains_key m k ≡ b
    answered b e = sym (ap is_some same_here) ∙ e

    pub chunk_there : IsSome (maps.get m k) → IsSome old
    chunk_there has = by old (ap is_some (sym (in_its_chunk k n home old had)) ∙ has)
      where
        by : (o : Option (maps.FinMap nat_cmp X)) → IsSome (at_chunk o k) → IsSome o
        by None has = cc has
        by (Some chunk) has = refl

-- what is copied out of a reference is there where the reference is
pub some_behind : {A : Type 0} (r : Option (MutBor A)) → IsSome (option_copied_mut r) → IsSome r
some_behind None has = has
some_behind (Some x) has = refl
