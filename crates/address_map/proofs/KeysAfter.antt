-- The next key of an address map: in a part, in a chunk, and in the whole.
use Rattle.std.proofs.Common.{◌≡◌, ◌≢◌, ℕ, ◌+◌, ◌-◌, ◌^◌, ◌%◌, ◌==◌, ◌<◌, ◌≤◌, false, refl, List, length, get_or, subst, sym, ap, ◌∙◌, arith}
use Rattle.std.specs.Prelude.{Option, Some, None, IsSome, is_some, ◌⊎◌, if◌then◌else◌}
use Rattle.std.specs.Option.{option_map}
use mathlib.Core.Logic.{inl, inr}
use Rattle.std.specs.Ordering.{nat_cmp}
use Rattle.std.proofs.lemmas.Bool.{eq-eqb, ne_eqb}
use Rattle.std.proofs.lemmas.Option.{same_Some}
use Rattle.std.specs.List.Sorted.{IsStrictlySortedBy}
use Rattle.std.specs.FinMap as maps
use Rattle.std.specs.BTreeMap.{is_at}
use Rattle.std.specs.Map.{lookup, keys_of}
use Rattle.std.proofs.lemmas.List.{get_or_default}
use Rattle.address_map.proofs.OneEntry.{same_or_other}
use Rattle.address_map.specs.Joined.{joined}
use Rattle.address_map.specs.Least.{IsLeast, IsAbove}
use Rattle.address_map.specs.Keys.{IsKeyAbove}
use Rattle.address_map.specs.inner.Grouped.{chunk_of, page_of, place_of, region_of, chunk_entries, AreChunks, AreParts, AreTogether, IsInChunk, IsNextInChunk, IsNextByPlace}
use Rattle.address_map.proofs.PartsJoined.{read_joined, inside_of}
use Rattle.address_map.proofs.ChunksJoined.{at_chunk, read_chunks, in_its_chunk}
use Rattle.address_map.proofs.Leasts.{least_as}

-- a key of an earlier page of the same chunk is less; one of an earlier chunk of the same region is less
pub page_order : (x y : ℕ) → chunk_of x ≡ chunk_of y → page_of x < page_of y → x ≤ y
page_order x y same less = omega arith

pub place_order : (x y : ℕ) → region_of x ≡ region_of y → place_of x < place_of y → x ≤ y
place_order x y same less = omega arith

pub same_chunk : (x y : ℕ) → region_of x ≡ region_of y → place_of x ≡ place_of y → chunk_of x ≡ chunk_of y
same_chunk x y region place = omega arith

-- the page at which a search begins in the chunk at a place
pub page_reached : (start page place from x : ℕ) → from ≡ (if place == start then page else 0) → place_of x ≡ place → (start ≡ place_of x → page ≤ page_of x) → from ≤ page_of x
page_reached start page place from x is home reach = by (same_or_other place start)
  where
    by : (place ≡ start) ⊎ (place ≢ start) → from ≤ page_of x
    by (inl same) = subst (λ n. n ≤ page_of x) (sym (is ∙ ap (λ b. if b then page else 0) (eq-eqb place start same))) (reach (sym (home ∙ same)))
    by (inr other) = subst (λ n. n ≤ page_of x) (sym (is ∙ ap (λ b. if b then page else 0) (ne_eqb place start other))) (omega arith)

-- a walk along the parts of a map, in the order of its keys
module _ {X : Type 0} (home : ℕ → ℕ) (ms : List (maps.FinMap nat_cmp X)) (are : AreParts home ms) (m : maps.FinMap nat_cmp X) (seen : joined ms ≡ m) (a : Option ℕ) where
  abbrev pub AreAhead : ℕ → Type 0
  AreAhead j = (x : ℕ) → IsKeyAbove m a x → j ≤ home x

  in_part : (x : ℕ) → maps.get m x ≡ maps.get (get_or ms (home x) maps.empty) x
  in_part x = sym (ap (λ n. maps.get n x) seen) ∙ read_joined home ms are x

  module _ (j : ℕ) (part : maps.FinMap nat_cmp X) (below : j < length ms) (here : part ≡ get_or ms j part) where
    part_is : part ≡ get_or ms j maps.empty
    part_is = here ∙ get_or_default ms j part maps.empty below

    pub to_part : (x : ℕ) → home x ≡ j → IsSome (maps.get m x) → IsSome (maps.get part x)
    to_part x place has =
        ap (λ n. is_some (maps.get n x)) part_is ∙ sym (ap (λ i. is_some (maps.get (get_or ms i maps.empty) x)) place) ∙ sym (ap is_some (in_part x)) ∙ has

    pub home_is : (x : ℕ) → IsSome (maps.get part x) → home x ≡ j
    home_is x has = are j x (ap (λ n. is_some (maps.get n x)) (sym part_is) ∙ has)

    pub from_part : (x : ℕ) → IsSome (maps.get part x) → IsSome (maps.get m x)
    from_part x has =
        ap is_some (in_part x) ∙ ap (λ i. is_some (maps.get (get_or ms i maps.empty) x)) (home_is x has) ∙ ap (λ n. is_some (maps.get n x)) (sym part_is) ∙ has

    pub found_in_part : ((x y : ℕ) → IsSome (maps.get m x) → IsSome (maps.get m y) → home x < home y → x ≤ y) → AreAhead j
        → (k : ℕ) → IsLeast (IsKeyAbove part a) (Some k) → IsLeast (IsKeyAbove m a) (Some k)
    found_in_part order ahead_of k least = ((from_part k least.0.0, least.0.1), λ y h. by y h (same_or_other (home y) j))
      where
        by : (y : ℕ) → IsKeyAbove m a y → (home y ≡ j) ⊎ (home y ≢ j) → k ≤ y
        by y h (inl place) = least.1 y (to_part y place h.0, h.1)
        by y h (inr other) = order k y (from_part k least.0.0) h.0 (less (home k) (home y) j (home_is k least.0.0) (ahead_of y h) other)
          where
            less : (p q j : ℕ) → p ≡ j → j ≤ q → q ≢ j → p < q
            less p q j same from other = omega arith

    pub past_part : AreAhead j → IsLeast (IsKeyAbove part a) None → AreAhead (j + 1)
    past_part ahead_of none x h = next (home x) j (ahead_of x h) (λ place. none x (to_part x place h.0, h.1))
      where
        next : (q j : ℕ) → j ≤ q → q ≢ j → j + 1 ≤ q
        next q j from other = omega arith

  pub past_all : (j : ℕ) → length ms ≤ j → AreAhead j → IsLeast (IsKeyAbove m a) None
  past_all j all ahead_of x h = outside (home x) j (length ms) all (ahead_of x h) (inside_of home ms are m seen x h.0)
    where
      outside : (q j n : ℕ) → n ≤ j → j ≤ q → q < n → ⊥
      outside q j n all from small = omega arith

  -- a part that is not there has no key
  pub none_outside : (b j : ℕ) → j ≡ home b → ¬ (j < length ms) → (x : ℕ) → IsSome (maps.get m x) → home x ≡ home b → ⊥
  none_outside b j place past x has same = past (subst (λ i. i < length ms) (same ∙ sym place) (inside_of home ms are m seen x has))

-- the next key in a page, in the chunk of its place
pub page_in_part : {X : Type 0} (ms : List (maps.FinMap nat_cmp X)) (are : AreParts place_of ms) (m : maps.FinMap nat_cmp X) (seen : joined ms ≡ m) (a : Option ℕ) (j : ℕ) (part : maps.FinMap nat_cmp X) → j < length ms → part ≡ get_or ms j part
    → (b : ℕ) → j ≡ place_of b → ((x : ℕ) → IsSome (maps.get m x) → region_of x ≡ region_of b) → (o : Option ℕ) → IsLeast (λ k. IsKeyAbove part (Some b) k × (page_of k ≡ page_of b)) o → IsLeast (IsNextByPlace m b) o
page_in_part ms are m seen a j part below here b place one o least =
    least_as (λ k. IsKeyAbove part (Some b) k × (page_of k ≡ page_of b)) (IsNextByPlace m b) o
    (λ x h. let has = from_part place_of ms are m seen a j part below here x h.0.0 in
    (has, h.0.1, same_chunk x b (one x has) (home_is place_of ms are m seen a j part below here x h.0.0 ∙ place), h.1))
    (λ x h. ((to_part place_of ms are m seen a j part below here x (ap (λ n. n % 256) h.2 ∙ sym place) h.0, h.1), h.3)) least

chunk_rises : (a x : ℕ) → a < x → chunk_of a ≤ chunk_of x
chunk_rises a x above = omega arith

chunk_before : (x y : ℕ) → chunk_of x < chunk_of y → x < y
chunk_before x y less = omega arith

pub page_rises : (a x : ℕ) → chunk_of x ≡ chunk_of a → a < x → page_of a ≤ page_of x
page_rises a x same above = omega arith

-- a walk along the chunks: where it is, all keys that are asked for lie at or behind that chunk
abbrev pub Reaches : Option ℕ → ℕ → Type 0
Reaches None c = ⊥
Reaches (Some n) c = n ≤ c

pub record IsAt {X : Type 0} (m : maps.FinMap nat_cmp X) (a next : Option ℕ) : Type 0 where
  pub reach : (x : ℕ) → IsKeyAbove m a x → Reaches next (chunk_of x)
  pub beyond : (n : ℕ) → next ≡ Some n → IsAbove (option_map chunk_of a) n

-- the least key, where the walk found one
module _ {X : Type 0} (m : maps.FinMap nat_cmp X) where
  pub found_here : (a : Option ℕ) (o : Option ℕ) → IsLeast (IsNextInChunk m a) o → IsSome o → IsLeast (IsKeyAbove m a) o
  found_here a None least has = cc has
  found_here None (Some k) least has = absurd least.0
  found_here (Some a) (Some k) least has = ((least.0.0, least.0.2), λ y h. by y h (same_or_other (chunk_of y) (chunk_of a)))
    where
      by : (y : ℕ) → IsKeyAbove m (Some a) y → (chunk_of y ≡ chunk_of a) ⊎ (chunk_of y ≢ chunk_of a) → k ≤ y
      by y h (inl same) = least.1 y (h.0, same, h.1)
      by y h (inr other) =
          let rises = chunk_rises a y h.1 in let before = chunk_before k y (less (chunk_of k) (chunk_of y) (chunk_of a) least.0.1 rises other) in omega (arith, before)
        where
          less : (p q c : ℕ) → p ≡ c → c ≤ q → q ≢ c → p < q
          less p q c same from other = omega arith

  beyond_a : (a : Option ℕ) (n k : ℕ) → IsAbove (option_map chunk_of a) n → chunk_of k ≡ n → IsAbove a k
  beyond_a None n k above same = tt
  beyond_a (Some a) n k above same = chunk_before a k (subst (λ c. chunk_of a < c) (sym same) above)

  pub found_first : (a : Option ℕ) (n : ℕ) → IsAt m a (Some n) → (o : Option ℕ) → IsLeast (IsInChunk m n) o → IsSome o → IsLeast (IsKeyAbove m a) o
  found_first a n at None least has = cc has
  found_first a n at (Some k) least has = ((least.0.0, beyond_a a n k (at.beyond n refl) least.0.1), λ y h. by y h (same_or_other (chunk_of y) n))
    where
      by : (y : ℕ) → IsKeyAbove m a y → (chunk_of y ≡ n) ⊎ (chunk_of y ≢ n) → k ≤ y
      by y h (inl same) = least.1 y (h.0, same)
      by y h (inr other) =
          let from = at.reach y h in let before = chunk_before k y (less (chunk_of k) (chunk_of y) n least.0.1 from other) in omega (arith, before)
        where
          less : (p q c : ℕ) → p ≡ c → c ≤ q → q ≢ c → p < q
          less p q c same from other = omega arith

-- the chunks of a map, and the map
module _ {X : Type 0} (es : List (ℕ × maps.FinMap nat_cmp X)) (m : maps.FinMap nat_cmp X) (seen : maps.from_entries (chunk_entries es) ≡ m) (ordered : IsStrictlySortedBy nat_cmp (keys_of es)) (own : AreChunks es) where
  pub chunk_known : (x : ℕ) → IsSome (maps.get m x) → IsSome (lookup (is_at (nat_cmp (chunk_of x))) es)
  chunk_known x has = by (lookup (is_at (nat_cmp (chunk_of x))) es) (ap is_some (sym (read_chunks es m seen ordered own x)) ∙ has)
    where
      by : (o : Option (maps.FinMap nat_cmp X)) → IsSome (at_chunk o x) → IsSome o
      by None has = cc has
      by (Some chunk) has = refl

  module _ (n : ℕ) (chunk : maps.FinMap nat_cmp X) (had : lookup (is_at (nat_cmp n)) es ≡ Some chunk) where
    pub together : AreTogether chunk
    together x y hx hy = own n chunk had x hx ∙ sym (own n chunk had y hy)

    pub number_is : (x : ℕ) → IsSome (maps.get chunk x) → chunk_of x ≡ n
    number_is x has = own n chunk had x has

    to_chunk : (x : ℕ) → chunk_of x ≡ n → IsSome (maps.get m x) → IsSome (maps.get chunk x)
    to_chunk x number has = sym (ap is_some (in_its_chunk es m seen ordered own x n (sym number) (Some chunk) had)) ∙ has

    from_chunk : (x : ℕ) → IsSome (maps.get chunk x) → IsSome (maps.get m x)
    from_chunk x has = ap is_some (in_its_chunk es m seen ordered own x n (sym (number_is x has)) (Some chunk) had) ∙ has

    pub next_in_chunk : (a : ℕ) → n ≡ chunk_of a → (o : Option ℕ) → IsLeast (IsKeyAbove chunk (Some a)) o → IsLeast (IsNextInChunk m (Some a)) o
    next_in_chunk a home o least =
        least_as (IsKeyAbove chunk (Some a)) (IsNextInChunk m (Some a)) o
        (λ x h. (from_chunk x h.0, number_is x h.0 ∙ home, h.1)) (λ x h. (to_chunk x (h.1 ∙ sym home) h.0, h.2)) least

    pub next_in_page : (a : ℕ) → n ≡ chunk_of a → (o : Option ℕ) → IsLeast (λ k. IsKeyAbove chunk (Some a) k × (page_of k ≡ page_of a)) o → IsLeast (IsNextByPlace m a) o
    next_in_page a home o least =
        least_as (λ k. IsKeyAbove chunk (Some a) k × (page_of k ≡ page_of a)) (IsNextByPlace m a) o
        (λ x h. (from_chunk x h.0.0, h.0.1, number_is x h.0.0 ∙ home, h.1)) (λ x h. ((to_chunk x (h.2 ∙ sym home) h.0, h.1), h.3)) least

    pub first_in_chunk : (o : Option ℕ) → IsLeast (IsKeyAbove chunk None) o → IsLeast (IsInChunk m n) o
    first_in_chunk o least =
        least_as (IsKeyAbove chunk None) (IsInChunk m n) o (λ x h. (from_chunk x h.0, number_is x h.0)) (λ x h. (to_chunk x h.1 h.0, tt)) least

  module _ (n : ℕ) (none : lookup (is_at (nat_cmp n)) es ≡ None) where
    nowhere : (x : ℕ) → chunk_of x ≡ n → IsSome (maps.get m x) → ⊥
    nowhere x number has = cc (sym (ap is_some (ap (λ j. lookup (is_at (nat_cmp j)) es) number ∙ none)) ∙ chunk_known x has)

    pub no_next : (a : ℕ) → n ≡ chunk_of a → IsLeast (IsNextInChunk m (Some a)) None
    no_next a home x h = nowhere x (h.1 ∙ sym home) h.0

    pub no_next_in_page : (a : ℕ) → n ≡ chunk_of a → IsLeast (IsNextByPlace m a) None
    no_next_in_page a home x h = nowhere x (h.2 ∙ sym home) h.0

    pub no_first : IsLeast (IsInChunk m n) None
    no_first x h = nowhere x h.1 h.0

  abbrev pub IsNextChunk : Option ℕ → Option ℕ → Type 0
  IsNextChunk c next = IsLeast (λ n. IsSome (lookup (is_at (nat_cmp n)) es) × IsAbove c n) next

  reached : (c next : Option ℕ) → IsNextChunk c next → (x : ℕ) → IsSome (maps.get m x) → IsAbove c (chunk_of x) → Reaches next (chunk_of x)
  reached c None least x has above = least (chunk_of x) (chunk_known x has, above)
  reached c (Some n) least x has above = least.1 (chunk_of x) (chunk_known x has, above)

  pub is_beyond : (c next : Option ℕ) → IsNextChunk c next → (n : ℕ) → next ≡ Some n → IsAbove c n
  is_beyond c None least n e = cc e
  is_beyond c (Some x) least n e = subst (IsAbove c) (same_Some x n e) least.0.1

  pub walk_on : (a here next : Option ℕ) → IsLeast (IsNextInChunk m a) here → is_some here ≡ false → IsNextChunk (option_map chunk_of a) next → IsAt m a next
  walk_on a (Some k) next none e least = cc e
  walk_on None None next none e least = record { reach = λ x h. reached None next least x h.0 tt; beyond = is_beyond None next least }
  walk_on (Some a) None next none e least = record {
    reach = λ x h. reached (Some (chunk_of a)) next least x h.0 (higher (chunk_of a) (chunk_of x) (chunk_rises a x h.1) (λ same. none x (h.0, same, h.1)));
    beyond = is_beyond (Some (chunk_of a)) next least;
  }
    where
      higher : (p q : ℕ) → p ≤ q → q ≢ p → p < q
      higher p q from other = omega arith

  pub walk_next : (a : Option ℕ) (n : ℕ) → IsAt m a (Some n) → (o : Option ℕ) → IsLeast (IsInChunk m n) o → is_some o ≡ false → (next : Option ℕ) → IsNextChunk (Some n) next → IsAt m a next
  walk_next a n at (Some k) least e next is_next = cc e
  walk_next a n at None none e next is_next = record {
    reach = λ x h. reached (Some n) next is_next x h.0 (higher n (chunk_of x) (at.reach x h) (λ same. none x (h.0, same)));
    beyond = λ k is. farther a n k (at.beyond n refl) (is_beyond (Some n) next is_next k is);
  }
    where
      higher : (p q : ℕ) → p ≤ q → q ≢ p → p < q
      higher p q from other = omega arith

      farther : (a : Option ℕ) (n k : ℕ) → IsAbove (option_map chunk_of a) n → n < k → IsAbove (option_map chunk_of a) k
      farther None n k above less = tt
      farther (Some a) n k above less = omega arith

  pub walk_end : (a : Option ℕ) → IsAt m a None → IsLeast (IsKeyAbove m a) None
  walk_end a at x h = at.reach x h

-- how many numbers lie at or behind the next one
abbrev pub numbers_left : Option ℕ → ℕ
numbers_left None = 0
numbers_left (Some n) = 2 ^ 64 - n

pub fewer_left : (n : ℕ) (next : Option ℕ) → n < 2 ^ 64 → ((k : ℕ) → next ≡ Some k → n < k) → numbers_left next < numbers_left (Some n)
fewer_left n None fits above = omega arith
fewer_left n (Some k) fits above = let less = above k refl in omega arith
