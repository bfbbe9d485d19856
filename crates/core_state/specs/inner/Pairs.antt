-- Pairs of a key and a value in a row, in the order of their keys.
use Rattle.std.specs.Prelude.{◌≡◌, ℕ, ◌≤◌, ◌<◌, T, List, length, get_or}
use Rattle.std.specs.declared.cmp.Ordering.{Ordering}
use Rattle.std.specs.declared.cmp.Ordering.TheVariants.{Less}
use Rattle.std.specs.FinMap.Entries.{is_sorted}

module _ {K X : Type 0} (R : K → K → Ordering) where
  -- The keys strictly rise.
  abbrev pub AreRising : List (K × X) → Type 0
  AreRising es = T (is_sorted R es)

  -- The key does not stand among them, and its place is i: after the lower keys, before the higher
  -- ones.
  pub record IsGapAt (es : List (K × X)) (key : K) (i : ℕ) : Type 0 where
    pub within : i ≤ length es
    pub behind : (k : ℕ) (e : K × X) → k < i → R (get_or es k e).0 key ≡ Less
    pub before : (k : ℕ) (e : K × X) → i ≤ k → k < length es → R key (get_or es k e).0 ≡ Less
