-- Parts of a map, each with the keys that are at home in it: what the whole has is what the part of the key
-- has, and a change of one entry in its part is that change of the whole.
use Rattle.std.proofs.Common.{◌≡◌, ◌≢◌, ℕ, zero, suc, ◌+◌, ◌<◌, cond, refl, List, [], ◌∷◌, ◌++◌, length, get_or, set, subst, sym, ap, ◌∙◌, arith}
use Rattle.std.specs.Prelude.{Option, Some, None, IsSome, is_some, ◌⊎◌, Result, Ok, Err, OnErr}
use mathlib.Core.Logic.{inl, inr}
use Rattle.std.specs.Ordering.{nat_cmp}
use Rattle.std.specs.Cmp.{nat_cmp_total}
use Rattle.std.specs.FinMap as maps
use Rattle.std.proofs.lemmas.List.{get_or_default, get_or-set_same, get_or-set_other, set-get_or}
use Rattle.address_map.proofs.OneEntry.{same_or_other, get_here, get_apart}
use Rattle.address_map.specs.Joined.{all_entries, joined}
use Rattle.address_map.specs.Keys.{with_new}
use Rattle.address_map.specs.inner.Grouped.{AreParts}
use Rattle.address_map.proofs.OneEntry.{alter, IsLocal}
use Rattle.address_map.proofs.Appended.{or_else, or_none, none_of, find_append}

pub none_there : (X : Type 0) (q : ℕ) → IsSome (maps.get (maps.empty {X = X} {R = nat_cmp}) q) → ⊥
none_there X q has = cc (sym (ap is_some (maps.get-empty nat_cmp q)) ∙ has)

-- no part at all
pub no_parts : (X : Type 0) (home : ℕ → ℕ) → AreParts {X = X} home []
no_parts X home i a has = absurd (none_there X a has)

module _ {X : Type 0} where
  joined_more : (m : maps.FinMap nat_cmp X) (ms : List (maps.FinMap nat_cmp X)) (q : ℕ) → maps.get (joined (m ∷ ms)) q ≡ or_else (maps.get m q) (maps.get (joined ms) q)
  joined_more m ms q =
      maps.get-from_entries nat_cmp_total (maps.entries m ++ all_entries ms) q ∙ find_append q (maps.entries m) (all_entries ms)
      ∙ (λ i. or_else (sym (maps.get-entries m q) i) (sym (maps.get-from_entries nat_cmp_total (all_entries ms) q) i))

  -- a part that has a key is there
  pub within : (ms : List (maps.FinMap nat_cmp X)) (i q : ℕ) → IsSome (maps.get (get_or ms i maps.empty) q) → i < length ms
  within [] i q has = absurd (none_there X q has)
  within (m ∷ ms) zero q has = omega arith
  within (m ∷ ms) (suc i) q has = let below = within ms i q has in omega arith

  -- one more part without keys
  pub padded : (ms : List (maps.FinMap nat_cmp X)) (i : ℕ) → get_or (ms ++ maps.empty ∷ []) i maps.empty ≡ get_or ms i maps.empty
  padded [] zero = refl
  padded [] (suc i) = refl
  padded (m ∷ ms) zero = refl
  padded (m ∷ ms) (suc i) = padded ms i

module _ {X : Type 0} (home : ℕ → ℕ) where
  -- the parts from number b on
  abbrev AreOwn : ℕ → List (maps.FinMap nat_cmp X) → Type 0
  AreOwn b ms = (i a : ℕ) → IsSome (maps.get (get_or ms i maps.empty) a) → home a ≡ b + i

  own_rest : (b : ℕ) (m : maps.FinMap nat_cmp X) (ms : List (maps.FinMap nat_cmp X)) → AreOwn b (m ∷ ms) → AreOwn (suc b) ms
  own_rest b m ms own i a has = let e = own (suc i) a has in later (home a) b i e
    where
      later : (s b i : ℕ) → s ≡ b + suc i → s ≡ suc b + i
      later s b i e = omega arith

  below_none : (b : ℕ) (ms : List (maps.FinMap nat_cmp X)) → AreOwn b ms → (q : ℕ) → home q < b → maps.get (joined ms) q ≡ None
  below_none b [] own q low = maps.get-empty nat_cmp q
  below_none b (m ∷ ms) own q low =
      joined_more m ms q
      ∙ (λ i. or_else (none_of (maps.get m q) (λ has. apart (home q) b low (own 0 q has)) i) (below_none (suc b) ms (own_rest b m ms own) q (omega arith) i))
    where
      apart : (s b : ℕ) → s < b → s ≡ b + 0 → ⊥
      apart s b low e = omega arith

  own_only : (b : ℕ) (ms : List (maps.FinMap nat_cmp X)) → AreOwn b ms → (i q : ℕ) → home q ≡ b + i → maps.get (joined ms) q ≡ maps.get (get_or ms i maps.empty) q
  own_only b [] own i q e = refl
  own_only b (m ∷ ms) own zero q e =
      joined_more m ms q ∙ ap (or_else (maps.get m q)) (below_none (suc b) ms (own_rest b m ms own) q (low (home q) b e)) ∙ or_none (maps.get m q)
    where
      low : (s b : ℕ) → s ≡ b + 0 → s < suc b
      low s b e = omega arith
  own_only b (m ∷ ms) own (suc i) q e =
      joined_more m ms q
      ∙ (λ j. or_else (none_of (maps.get m q) (λ has. apart (home q) b i e (own 0 q has)) j) (own_only (suc b) ms (own_rest b m ms own) i q (later (home q) b i e) j))
    where
      apart : (s b i : ℕ) → s ≡ b + suc i → s ≡ b + 0 → ⊥
      apart s b i e f = omega arith

      later : (s b i : ℕ) → s ≡ b + suc i → s ≡ suc b + i
      later s b i e = omega arith

  -- the whole map has at a key what the part of the key has
  pub read_joined : (ms : List (maps.FinMap nat_cmp X)) → AreParts home ms → (q : ℕ) → maps.get (joined ms) q ≡ maps.get (get_or ms (home q) maps.empty) q
  read_joined ms are q = own_only 0 ms (λ i a has. are i a has ∙ front i) (home q) q (front (home q))
    where
      front : (n : ℕ) → n ≡ 0 + n
      front n = omega arith

  -- a key that is there lies in a part that is there
  pub inside_of : (ms : List (maps.FinMap nat_cmp X)) → AreParts home ms → (whole : maps.FinMap nat_cmp X) → joined ms ≡ whole → (q : ℕ) → IsSome (maps.get whole q) → home q < length ms
  inside_of ms are whole seen q has =
      within ms (home q) q (ap is_some (sym (read_joined ms are q) ∙ ap (λ m. maps.get m q) seen) ∙ has)

  pub nowhere : (ms : List (maps.FinMap nat_cmp X)) → AreParts home ms → (whole : maps.FinMap nat_cmp X) → joined ms ≡ whole → (q i : ℕ) → i ≡ home q → ¬ (i < length ms) → maps.get whole q ≡ None
  nowhere ms are whole seen q i place past =
      none_of (maps.get whole q) (λ has. past (subst (λ j. j < length ms) (sym place) (inside_of ms are whole seen q has)))

  -- other parts that have the same
  module _ (ms ns : List (maps.FinMap nat_cmp X)) (same : (i : ℕ) → get_or ns i maps.empty ≡ get_or ms i maps.empty) (are : AreParts home ms) where
    pub same_parts : AreParts home ns
    same_parts i a has = are i a (ap (λ m. is_some (maps.get m a)) (sym (same i)) ∙ has)

    pub same_joined : joined ns ≡ joined ms
    same_joined =
        maps.same_map nat_cmp_total maps.nat_cmp-IsAntisymmetric _ _
        (λ q. read_joined ns same_parts q ∙ ap (λ m. maps.get m q) (same (home q)) ∙ sym (read_joined ms are q))

-- an address that is added where it is not there
pub new_local : {X : Type 0} (k : ℕ) (v : X) → IsLocal (λ m. with_new m k v) k
new_local {X} k v = record { pick = pick; is = λ m. by m (maps.get m k) refl }
  where
    pick : Option X → Option X
    pick None = Some v
    pick (Some x) = None

    by : (m : maps.FinMap nat_cmp X) (o : Option X) → maps.get m k ≡ o → with_new m k v ≡ alter (pick (maps.get m k)) m k
    by m None e = ap (λ p. cond (is_some p) m (maps.insert m k v)) e ∙ sym (ap (λ p. alter (pick p) m k) e)
    by m (Some x) e = ap (λ p. cond (is_some p) m (maps.insert m k v)) e ∙ sym (ap (λ p. alter (pick p) m k) e)

module _ {X : Type 0} (home : ℕ → ℕ) (ms : List (maps.FinMap nat_cmp X)) (are : AreParts home ms) (k i : ℕ) (place : i ≡ home k) (inside : i < length ms) (old : maps.FinMap nat_cmp X) (here : old ≡ get_or ms i old) where
  old_is : old ≡ get_or ms i maps.empty
  old_is = here ∙ get_or_default ms i old maps.empty inside

  pub same_there : (whole : maps.FinMap nat_cmp X) → joined ms ≡ whole → maps.get old k ≡ maps.get whole k
  same_there whole seen =
      ap (λ m. maps.get m k) old_is ∙ ap (λ j. maps.get (get_or ms j maps.empty) k) place ∙ sym (read_joined home ms are k) ∙ ap (λ m. maps.get m k) seen

  old_own : (a : ℕ) → IsSome (maps.get old a) → home a ≡ i
  old_own a has = are i a (subst (λ (m : maps.FinMap nat_cmp X). IsSome (maps.get m a)) old_is has)

  insert_own : (x : X) (a : ℕ) → (a ≡ k) ⊎ (a ≢ k) → IsSome (maps.get (maps.insert old k x) a) → home a ≡ i
  insert_own x a (inl same) has = ap home same ∙ sym place
  insert_own x a (inr apart) has = old_own a (ap is_some (sym (get_apart old k x a apart)) ∙ has)

  alter_own : (v : Option X) (a : ℕ) → IsSome (maps.get (alter v old k) a) → home a ≡ i
  alter_own None a has = old_own a has
  alter_own (Some x) a has = insert_own x a (same_or_other a k) has

  set_own : (new : maps.FinMap nat_cmp X) → ((a : ℕ) → IsSome (maps.get new a) → home a ≡ i) → (j a : ℕ) → (j ≡ i) ⊎ (j ≢ i) → IsSome (maps.get (get_or (set ms i new) j maps.empty) a) → home a ≡ j
  set_own new own j a (inl same) has =
      own a (ap (λ m. is_some (maps.get m a)) (sym (ap (λ n. get_or (set ms i new) n maps.empty) same ∙ get_or-set_same ms i new maps.empty inside)) ∙ has) ∙ sym same
  set_own new own j a (inr apart) has =
      are j a (ap (λ m. is_some (maps.get m a)) (sym (get_or-set_other ms i j new maps.empty apart)) ∙ has)

  pub still_parts : (new : maps.FinMap nat_cmp X) (v : Option X) → new ≡ alter v old k → AreParts home (set ms i new)
  still_parts new v is = λ j a has. set_own new (λ b there. alter_own v b (ap (λ m. is_some (maps.get m b)) (sym is) ∙ there)) j a (same_or_other j i) has

  module _ (new : maps.FinMap nat_cmp X) (x : X) (is : new ≡ maps.insert old k x) where
    in_part : (q : ℕ) → home q ≡ i → maps.get (joined (set ms i new)) q ≡ maps.get new q
    in_part q own =
        read_joined home (set ms i new) (still_parts new (Some x) is) q ∙ ap (λ j. maps.get (get_or (set ms i new) j maps.empty) q) own
        ∙ ap (λ m. maps.get m q) (get_or-set_same ms i new maps.empty inside)

    at_other : (q : ℕ) → q ≢ k → (home q ≡ i) ⊎ (home q ≢ i) → maps.get (joined (set ms i new)) q ≡ maps.get (joined ms) q
    at_other q apart (inl own) =
        in_part q own ∙ ap (λ m. maps.get m q) is ∙ get_apart old k x q apart
        ∙ ap (λ m. maps.get m q) old_is ∙ ap (λ j. maps.get (get_or ms j maps.empty) q) (sym own) ∙ sym (read_joined home ms are q)
    at_other q apart (inr away) =
        read_joined home (set ms i new) (still_parts new (Some x) is) q ∙ ap (λ m. maps.get m q) (get_or-set_other ms i (home q) new maps.empty away)
        ∙ sym (read_joined home ms are q)

    at_each : (q : ℕ) → (q ≡ k) ⊎ (q ≢ k) → maps.get (joined (set ms i new)) q ≡ maps.get (maps.insert (joined ms) k x) q
    at_each q (inl same) =
        rw same (in_part k (sym place) ∙ ap (λ m. maps.get m k) is ∙ get_here old k x ∙ sym (get_here (joined ms) k x))
    at_each q (inr apart) = at_other q apart (same_or_other (home q) i) ∙ sym (get_apart (joined ms) k x q apart)

    insert_joined : joined (set ms i new) ≡ maps.insert (joined ms) k x
    insert_joined = maps.same_map nat_cmp_total maps.nat_cmp-IsAntisymmetric _ _ (λ q. at_each q (same_or_other q k))

  pub alter_joined : (new : maps.FinMap nat_cmp X) (v : Option X) → new ≡ alter v old k → joined (set ms i new) ≡ alter v (joined ms) k
  alter_joined new None is = ap joined (ap (set ms i) (is ∙ here) ∙ set-get_or ms i old)
  alter_joined new (Some x) is = insert_joined new x is

  pub still : (new : maps.FinMap nat_cmp X) → new ≡ old → AreParts home (set ms i new)
  still new is = still_parts new None is

  -- the part that was put in place is read at its key
  pub new_there : (new : maps.FinMap nat_cmp X) → AreParts home (set ms i new) → maps.get (joined (set ms i new)) k ≡ maps.get new k
  new_there new still =
      read_joined home (set ms i new) still k ∙ ap (λ j. maps.get (get_or (set ms i new) j maps.empty) k) (sym place)
      ∙ ap (λ m. maps.get m k) (get_or-set_same ms i new maps.empty inside)

  pub insert_whole : (new : maps.FinMap nat_cmp X) (x : X) → new ≡ maps.insert old k x → (whole : maps.FinMap nat_cmp X) → joined ms ≡ whole → joined (set ms i new) ≡ maps.insert whole k x
  insert_whole new x is whole seen = insert_joined new x is ∙ ap (λ m. maps.insert m k x) seen

  pub still_inserted : (new : maps.FinMap nat_cmp X) (x : X) → new ≡ maps.insert old k x → AreParts home (set ms i new)
  still_inserted new x is = still_parts new (Some x) is

  module _ (change : maps.FinMap nat_cmp X → maps.FinMap nat_cmp X) (local : IsLocal change k) (new : maps.FinMap nat_cmp X) (is : new ≡ change old) where
    pub still_after : AreParts home (set ms i new)
    still_after = still_parts new (local.pick (maps.get old k)) (is ∙ local.is old)

    pub changed : (whole : maps.FinMap nat_cmp X) → joined ms ≡ whole → joined (set ms i new) ≡ change whole
    changed whole seen =
        alter_joined new (local.pick (maps.get old k)) (is ∙ local.is old)
        ∙ (λ j. alter (local.pick (same_there whole seen j)) (seen j) k) ∙ sym (local.is whole)

  -- a part that was put in place as it was
  pub unchanged_whole : (new : maps.FinMap nat_cmp X) → new ≡ old → (whole : maps.FinMap nat_cmp X) → joined ms ≡ whole → joined (set ms i new) ≡ whole
  unchanged_whole new is whole seen = alter_joined new None is ∙ seen

-- what holds anyway holds of a refusal
pub when_err : {T E P : Type 0} (r : Result T E) → P → OnErr r P
when_err (Ok x) p = tt
when_err (Err e) p = p
