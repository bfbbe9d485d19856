-- Pairs of a key and a value in a row, read as a map: the first pair of a key counts.
use Rattle.std.specs.Prelude.{◌≡◌, ℕ, List, [], ◌∷◌, take, slice_get, Some, None}
use Rattle.std.specs.declared.cmp.Ordering.{Ordering}
use Rattle.std.specs.declared.cmp.Ordering.TheVariants.{Equal}
use Rattle.std.specs.FinMap as maps
use Rattle.std.specs.FinMap.{find}

module _ {K X : Type 0} (R : K → K → Ordering) where
  -- No key stands twice.
  abbrev pub AreApart : List (K × X) → Type 0
  AreApart [] = Unit {0}
  AreApart (e ∷ es) = (find R e.0 es ≡ None) × AreApart es

  -- The pair at i is the first one of the key.
  pub record IsFirstAt (es : List (K × X)) (key : K) (i : ℕ) : Type 0 where
    pub pair : K × X
    pub at : slice_get es i ≡ Some pair
    pub is : R key pair.0 ≡ Equal
    pub first : find R key (take i es) ≡ None

-- The map with the pairs put into it.
abbrev pub over : {K X : Type 0} {R : K → K → Ordering} → List (K × X) → maps.FinMap R X
    → maps.FinMap R X
over [] m = m
over (e ∷ es) m = maps.insert (over es m) e.0 e.1
