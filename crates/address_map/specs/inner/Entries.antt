-- The entries of a chunk, read as pairs of an address and a value, and how those of a page are tied
-- to one another.
use Rattle.std.specs.Prelude.{◌≡◌, ◌≢◌, ◌≤◌, ◌<◌, ◌+◌, ℕ, List, [], ◌∷◌, length, slice_index_or}
use Rattle.std.specs.Ordering.{nat_cmp}
use Rattle.address_map.specs.declared.entry.Entry.{Entry}
use Rattle.address_map.specs.inner.Grouped.{page_of}
use Rattle.address_map.specs.Pairs.{AreApart}

-- The addresses with their values.
abbrev pub pairs : {X : Type 0} → List (Entry X) → List (ℕ × X)
pairs [] = []
pairs (e ∷ es) = (e.key, e.value) ∷ pairs es

-- The addresses, each with the number of entries up to the one before it in its page.
abbrev pub links : {X : Type 0} → List (Entry X) → List (ℕ × ℕ)
links [] = []
links (e ∷ es) = (e.key, e.before) ∷ links es

-- The address at a place of them, and what stands beside it.
abbrev pub key_at : List (ℕ × ℕ) → ℕ → ℕ
key_at ls i = (slice_index_or ls i (0, 0)).0

abbrev pub before_at : List (ℕ × ℕ) → ℕ → ℕ
before_at ls i = (slice_index_or ls i (0, 0)).1

-- Among the first `bound` of these addresses, those of page p lie among the first n. The last of
-- these n is one of them, and n is 0 if there are none.
pub record IsUpTo (ls : List (ℕ × ℕ)) (bound p n : ℕ) : Type 0 where
  pub within : n ≤ bound
  pub last : (i : ℕ) → i + 1 ≡ n → page_of (key_at ls i) ≡ p
  pub rest : (i : ℕ) → n ≤ i → i < bound → page_of (key_at ls i) ≢ p

-- No address stands twice. The table says of each page how many entries there are up to its last
-- one, and each entry how many there are up to the one before it in its page.
pub record AreLinked {X : Type 0} (upto : List ℕ) (es : List (Entry X)) : Type 0 where
  pub apart : AreApart nat_cmp (pairs es)
  pub table : (p : ℕ) → IsUpTo (links es) (length es) p (slice_index_or upto p 0)
  pub before : (i : ℕ) → i < length es
      → IsUpTo (links es) i (page_of (key_at (links es) i)) (before_at (links es) i)
