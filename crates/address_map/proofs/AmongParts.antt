-- What is found in the parts of a map, one after the other.
use Rattle.std.proofs.Common.{◌≡◌, ℕ, ◌+◌, ◌<◌, ◌≤◌, List, length, get_or, subst, sym, ap, ◌∙◌, arith, below_more}
use Rattle.std.specs.Prelude.{is_some, IsSome}
use Rattle.std.specs.Ordering.{nat_cmp}
use Rattle.std.specs.FinMap as maps
use Rattle.std.proofs.lemmas.List.{get_or_read}
use Rattle.address_map.proofs.PartsJoined as some
use Rattle.address_map.specs.Joined.{joined}
use Rattle.address_map.specs.inner.Grouped.{AreParts}
use Rattle.address_map.specs.Found.{IsFoundAmong, IsFoundInPart}

module _ {X A : Type 0} (At : ℕ → X → A → Type 0) (parts : List (maps.FinMap nat_cmp X)) where
  -- nothing is found in the first n parts
  abbrev pub ArePassed : ℕ → Type 0
  ArePassed n = (i : ℕ) → i < n → (thing : A) → ¬ IsFoundAmong At (get_or parts i maps.empty) thing

  pub none_passed : ArePassed 0
  none_passed i below thing found = absurd (omega (arith, below))

  pub passed_more : (n : ℕ) (part : maps.FinMap nat_cmp X) → n < length parts → part ≡ get_or parts n part → ArePassed n → ((thing : A) → ¬ IsFoundAmong At part thing) → ArePassed (n + 1)
  passed_more n part within is passed none = below_more (λ i. (thing : A) → ¬ IsFoundAmong At (get_or parts i maps.empty) thing) n passed (λ thing found. none thing (subst (λ m. IsFoundAmong At m thing) (sym (get_or_read parts n part within is maps.empty)) found))

  pub found_in : (n : ℕ) (part : maps.FinMap nat_cmp X) → n < length parts → part ≡ get_or parts n part → (thing : A) → IsFoundAmong At part thing → IsFoundInPart At parts thing
  found_in n part within is thing found = record { part = n; within = within; there = subst (λ m. IsFoundAmong At m thing) (get_or_read parts n part within is maps.empty) found }

  pub passed_all : (n : ℕ) → length parts ≤ n → ArePassed n → (thing : A) → ¬ IsFoundInPart At parts thing
  passed_all n all passed thing found = passed found.part (omega (arith, found.within, all)) thing found.there

-- parts of a map, each with the keys that belong to it
module _ {X A : Type 0} (At : ℕ → X → A → Type 0) (parts : List (maps.FinMap nat_cmp X)) (m : maps.FinMap nat_cmp X) (home : ℕ → ℕ) (read : (q : ℕ) → maps.get m q ≡ maps.get (get_or parts (home q) maps.empty) q) where
  pub from_part : ((i a : ℕ) → IsSome (maps.get (get_or parts i maps.empty) a) → home a ≡ i) → (thing : A) → IsFoundInPart At parts thing → IsFoundAmong At m thing
  from_part own thing found = record {
    key = found.there.key;
    entry = found.there.entry;
    has =
        read found.there.key
        ∙ ap (λ i. maps.get (get_or parts i maps.empty) found.there.key) (own found.part found.there.key (ap is_some found.there.has)) ∙ found.there.has;
    there = found.there.there;
  }

  pub to_part : ((q : ℕ) → IsSome (maps.get m q) → home q < length parts) → (thing : A) → IsFoundAmong At m thing → IsFoundInPart At parts thing
  to_part within thing found = record {
    part = home found.key;
    within = within found.key (ap is_some found.has);
    there = record { key = found.key; entry = found.entry; has = sym (read found.key) ∙ found.has; there = found.there };
  }

-- the lines of a chunk, or the chunks of a region
module _ {X A : Type 0} (At : ℕ → X → A → Type 0) (home : ℕ → ℕ) (parts : List (maps.FinMap nat_cmp X)) (are : AreParts home parts) (m : maps.FinMap nat_cmp X) (seen : joined parts ≡ m) where
  read_part : (q : ℕ) → maps.get m q ≡ maps.get (get_or parts (home q) maps.empty) q
  read_part q = ap (λ (n : maps.FinMap nat_cmp X). maps.get n q) (sym seen) ∙ some.read_joined home parts are q

  pub among_parts : (thing : A) → IsFoundInPart At parts thing → IsFoundAmong At m thing
  among_parts = from_part At parts m home read_part are

  pub in_parts : (thing : A) → IsFoundAmong At m thing → IsFoundInPart At parts thing
  in_parts = to_part At parts m home read_part (λ q has. some.inside_of home parts are m seen q has)
