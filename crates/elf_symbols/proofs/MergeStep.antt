-- One more seed among those that are merged.
use Rattle.std.proofs.Common.{◌≡◌, ℕ, ◌<◌, ◌≤◌, List, [], ◌∷◌, ◌++◌, length, get_or, take, Option, Some, None, refl, sym, ap, ◌∙◌, subst, arith, inl, inr}
use Rattle.std.specs.Prelude.{◌⊎◌, IfSome}
use Rattle.std.specs.List.{All, Contains}
use Rattle.std.specs.List.Sorted.{IsNonDecreasingBy}
use Rattle.std.specs.Option.{option_map}
use Rattle.std.proofs.lemmas.Bool.{cases_eq}
use Rattle.std.proofs.lemmas.List.{map_push, length-take-le, get_or-take, get_or_default}
use Rattle.std.proofs.lemmas.List.Elements.{All-contains, All-push, All-pop, All-nil, Contains-append_left, Contains-push, Contains-push_cases}
use Rattle.elf_image.specs.declared.section.Span.{Span}
use Rattle.elf_image.specs.ReadOnly.{span_bytes}
use Rattle.elf_symbols.specs.declared.seed.Seed.{Seed}
use Rattle.elf_symbols.specs.Seeds.{addresses_of, name_in, LiesIn}
use Rattle.elf_symbols.specs.Inner.Names.{text_of}
use Rattle.elf_symbols.specs.Inner.Names.{lesser_name, IsLeastName}
use Rattle.elf_symbols.specs.Inner.Merged.{AreMerged, EndsElsewhere}
use Rattle.elf_symbols.proofs.Members.{no-member, Contains-here, Contains-later, Contains-cons_cases, Contains-from_map}
use Rattle.elf_symbols.proofs.Rising.{Ascends, ascends-from_increasing, increasing-from_ascends}
use Rattle.elf_symbols.proofs.LeastName.{least-none, least-here, least-there}
use Rattle.elf_symbols.proofs.FindSeed.{name_in-none, name_in-push_here, name_in-push_other}

-- one more number at the end
ascends-push : (xs : List ℕ) (a : ℕ) → Ascends xs → ((y : ℕ) → Contains xs y → y < a) → Ascends (xs ++ a ∷ [])
ascends-push [] a up below = (λ y there. absurd (no-member y there), tt)
ascends-push (x ∷ xs) a up below = (
  λ y there. elim (Contains-push_cases xs a y there) [
    | inl before ↦ up.0 y before
    | inr last ↦ let first = below x (Contains-here x xs) in omega arith
  ],
  ascends-push xs a up.1 (λ y there. below y (Contains-later x xs y there)),
)

-- the last of such numbers is above the others
last-above : (xs : List ℕ) (a : ℕ) → Ascends (xs ++ a ∷ []) → (y : ℕ) → Contains xs y → y < a
last-above [] a up y there = absurd (no-member y there)
last-above (x ∷ xs) a up y there = elim (Contains-cons_cases x xs y there) [
  | inl same ↦ let less = up.0 a (Contains-push xs a) in omega arith
  | inr later ↦ last-above xs a up.1 y later
]

-- the seed at the greatest address is the last
greatest-last : (ms : List Seed) (a : ℕ) → Ascends (addresses_of ms) → ((y : ℕ) → Contains (addresses_of ms) y → y ≤ a) → Contains (addresses_of ms) a → (rest : List Seed) × (last : Seed) × (ms ≡ rest ++ last ∷ []) × (last.address ≡ a)
greatest-last [] a up below there = absurd (no-member a there)
greatest-last (m ∷ []) a up below there = elim (Contains-cons_cases m.address [] a there) [
  | inl same ↦ ([], m, refl, same)
  | inr later ↦ absurd (no-member a later)
]
greatest-last (m ∷ n ∷ ms) a up below there = elim (Contains-cons_cases m.address (addresses_of (n ∷ ms)) a there) [
  | inl same ↦
      let over = up.0 n.address (Contains-here n.address (addresses_of ms)) in
      let under = below n.address (Contains-later m.address (addresses_of (n ∷ ms)) n.address (Contains-here n.address (addresses_of ms))) in
      absurd (omega arith)
  | inr later ↦
      let it = greatest-last (n ∷ ms) a up.1 (λ y at. below y (Contains-later m.address (addresses_of (n ∷ ms)) y at)) later in
      (m ∷ it.0, it.1, ap (λ xs. m ∷ xs) it.2, it.3)
]

-- addresses with one more
addresses-push : (xs : List Seed) (s : Seed) → addresses_of (xs ++ s ∷ []) ≡ addresses_of xs ++ s.address ∷ []
addresses-push xs s = map_push (λ (t : Seed). t.address) xs s

-- nothing is merged to nothing
pub merged-none : (bytes : List ℕ) → AreMerged bytes [] []
merged-none bytes = record {
  rising = λ k within. absurd (omega arith);
  same = λ a. (λ there. there, λ there. there);
  names = λ a. least-none bytes (Contains []) a (λ s there. no-member s there);
  lie = All-nil (λ (s : Seed). IfSome s.name (LiesIn bytes));
}

module _ (bytes : List ℕ) (xs : List Seed) (s : Seed) (last : All (λ (t : Seed). t.address ≤ s.address) xs) where
  at_most : (a : ℕ) → Contains (addresses_of xs) a → a ≤ s.address
  at_most a there =
      let t = Contains-from_map (λ (t : Seed). t.address) xs a there in
      let below = All-contains (λ (t : Seed). t.address ≤ s.address) xs t.0 last t.1 in
      omega (arith, below, t.2)

  parts : (t : Seed) → Contains (xs ++ s ∷ []) t → Contains xs t ⊎ (s ≡ t)
  parts t there = Contains-push_cases xs s t there

  -- a seed at a new address
  module _ (ms : List Seed) (m : AreMerged bytes xs ms) (lies : IfSome s.name (LiesIn bytes)) (elsewhere : EndsElsewhere ms s.address) where
    up : Ascends (addresses_of ms)
    up = ascends-from_increasing (addresses_of ms) m.rising

    absent : Contains (addresses_of ms) s.address → ⊥
    absent there =
        let it = greatest-last ms s.address up (λ y at. at_most y ((m.same y).0 at)) there in
        elsewhere it.0 it.1 it.2 it.3

    below : (y : ℕ) → Contains (addresses_of ms) y → y < s.address
    below y there = elim (cases_eq y s.address) [
      | inl same ↦ absurd (absent (subst (Contains (addresses_of ms)) same there))
      | inr other ↦ let upto = at_most y ((m.same y).0 there) in omega arith
    ]

    names : (a : ℕ) → IsLeastName bytes (Contains (xs ++ s ∷ [])) a (option_map (span_bytes bytes) (name_in (ms ++ s ∷ []) a))
    names a = elim (cases_eq s.address a) [
      | inl here ↦
          let none : Contains (addresses_of ms) a → ⊥ = λ there. absent (subst (Contains (addresses_of ms)) (sym here) there) in
          let before = subst (λ o. IsLeastName bytes (Contains xs) a (option_map (span_bytes bytes) o)) (name_in-none ms a none) (m.names a) in
          let after = least-here bytes (Contains xs) (Contains (xs ++ s ∷ [])) s (λ t there. Contains-append_left xs (s ∷ []) t there) (Contains-push xs s) parts a None here before in
          subst (λ o. IsLeastName bytes (Contains (xs ++ s ∷ [])) a (option_map (span_bytes bytes) o)) (sym (name_in-push_here ms s a none here)) after
      | inr other ↦
          let after = least-there bytes (Contains xs) (Contains (xs ++ s ∷ [])) s (λ t there. Contains-append_left xs (s ∷ []) t there) (Contains-push xs s) parts a _ other (m.names a) in
          subst (λ o. IsLeastName bytes (Contains (xs ++ s ∷ [])) a (option_map (span_bytes bytes) o)) (sym (name_in-push_other ms s a other)) after
    ]

    to : (a : ℕ) → Contains (addresses_of ms ++ s.address ∷ []) a → Contains (addresses_of xs ++ s.address ∷ []) a
    to a there = elim (Contains-push_cases (addresses_of ms) s.address a there) [
      | inl before ↦ Contains-append_left (addresses_of xs) (s.address ∷ []) a ((m.same a).0 before)
      | inr same ↦ subst (Contains (addresses_of xs ++ s.address ∷ [])) same (Contains-push (addresses_of xs) s.address)
    ]

    fro : (a : ℕ) → Contains (addresses_of xs ++ s.address ∷ []) a → Contains (addresses_of ms ++ s.address ∷ []) a
    fro a there = elim (Contains-push_cases (addresses_of xs) s.address a there) [
      | inl before ↦ Contains-append_left (addresses_of ms) (s.address ∷ []) a ((m.same a).1 before)
      | inr same ↦ subst (Contains (addresses_of ms ++ s.address ∷ [])) same (Contains-push (addresses_of ms) s.address)
    ]

    pub merged-push : AreMerged bytes (xs ++ s ∷ []) (ms ++ s ∷ [])
    merged-push = record {
      rising = increasing-from_ascends (addresses_of (ms ++ s ∷ [])) (rw (addresses-push ms s) (ascends-push (addresses_of ms) s.address up below));
      same = λ a. rw (addresses-push ms s, addresses-push xs s) (to a, fro a);
      names = names;
      lie = All-push (λ (t : Seed). IfSome t.name (LiesIn bytes)) ms s m.lie lies;
    }

  -- a seed at the address of the last
  module _ (rest : List Seed) (l : Seed) (m : AreMerged bytes xs (rest ++ l ∷ [])) (here : l.address ≡ s.address) (name : Option Span) (text : option_map (span_bytes bytes) name ≡ lesser_name (text_of bytes l) (text_of bytes s)) (lies : IfSome name (LiesIn bytes)) where
    joined : Seed
    joined = record { address = s.address; name = name }

    same_addresses : addresses_of (rest ++ joined ∷ []) ≡ addresses_of (rest ++ l ∷ [])
    unfolding joined
    same_addresses = addresses-push rest joined ∙ ap (λ a. addresses_of rest ++ a ∷ []) (sym here) ∙ sym (addresses-push rest l)

    alone : Contains (addresses_of rest) l.address → ⊥
    alone there =
        let up = rw (addresses-push rest l) at (ascends-from_increasing (addresses_of (rest ++ l ∷ [])) m.rising) in
        let less = last-above (addresses_of rest) l.address up l.address there in
        omega arith

    join_names : (a : ℕ) → IsLeastName bytes (Contains (xs ++ s ∷ [])) a (option_map (span_bytes bytes) (name_in (rest ++ joined ∷ []) a))
    unfolding joined
    join_names a = elim (cases_eq s.address a) [
      | inl at ↦
          let none : Contains (addresses_of rest) a → ⊥ = λ there. alone (subst (Contains (addresses_of rest)) (sym (here ∙ at)) there) in
          let before = subst (λ o. IsLeastName bytes (Contains xs) a (option_map (span_bytes bytes) o)) (name_in-push_here rest l a none (here ∙ at)) (m.names a) in
          let after = least-here bytes (Contains xs) (Contains (xs ++ s ∷ [])) s (λ t there. Contains-append_left xs (s ∷ []) t there) (Contains-push xs s) parts a (text_of bytes l) at before in
          let found : option_map (span_bytes bytes) (name_in (rest ++ joined ∷ []) a) ≡ lesser_name (text_of bytes l) (text_of bytes s) = ap (option_map (span_bytes bytes)) (name_in-push_here rest joined a none at) ∙ text in
          subst (IsLeastName bytes (Contains (xs ++ s ∷ [])) a) (sym found) after
      | inr other ↦
          let not_l : l.address ≡ a → ⊥ = λ e. other (sym here ∙ e) in
          let after = least-there bytes (Contains xs) (Contains (xs ++ s ∷ [])) s (λ t there. Contains-append_left xs (s ∷ []) t there) (Contains-push xs s) parts a _ other (m.names a) in
          let found = name_in-push_other rest joined a other ∙ sym (name_in-push_other rest l a not_l) in
          subst (λ o. IsLeastName bytes (Contains (xs ++ s ∷ [])) a (option_map (span_bytes bytes) o)) (sym found) after
    ]

    kept : (a : ℕ) → Contains (addresses_of xs ++ s.address ∷ []) a → Contains (addresses_of xs) a
    kept a there = elim (Contains-push_cases (addresses_of xs) s.address a there) [
      | inl before ↦ before
      | inr same ↦ subst (Contains (addresses_of xs)) (here ∙ same) ((m.same l.address).0 (rw (addresses-push rest l) (Contains-push (addresses_of rest) l.address)))
    ]

    pub merged-join : AreMerged bytes (xs ++ s ∷ []) (rest ++ record { address = s.address; name = name } ∷ [])
    unfolding joined
    merged-join = record {
      rising = rw same_addresses m.rising;
      same = λ a. rw (same_addresses, addresses-push xs s) (λ there. Contains-append_left (addresses_of xs) (s.address ∷ []) a ((m.same a).0 there), λ there. (m.same a).1 (kept a there));
      names = join_names;
      lie = All-push (λ (t : Seed). IfSome t.name (LiesIn bytes)) rest joined (All-pop (λ (t : Seed). IfSome t.name (LiesIn bytes)) (rest ++ l ∷ []) rest (Some l) refl m.lie).0 lies;
    }

-- the two cases, as they are met
pub added-push : (bytes : List ℕ) (xs : List Seed) (s : Seed) → All (λ (t : Seed). t.address ≤ s.address) xs → (old rest new : List Seed) → AreMerged bytes xs old → IfSome s.name (LiesIn bytes) → EndsElsewhere old s.address → rest ≡ old → (name : Option Span) → name ≡ s.name → new ≡ rest ++ record { address = s.address; name = name } ∷ [] → AreMerged bytes (xs ++ s ∷ []) new
added-push bytes xs s last old rest new m lies elsewhere kept name is pushed =
    let x : List Seed → Option Span → List Seed = λ ms o. ms ++ record { address = s.address; name = o } ∷ [] in
    let all : new ≡ old ++ s ∷ [] = pushed ∙ ap (λ ms. x ms name) kept ∙ ap (x old) is in
    subst (AreMerged bytes (xs ++ s ∷ [])) (sym all) (merged-push bytes xs s last old m lies elsewhere)

pub added-join : (bytes : List ℕ) (xs : List Seed) (s : Seed) → All (λ (t : Seed). t.address ≤ s.address) xs → (old rest new : List Seed) (l : Seed) → AreMerged bytes xs old → old ≡ rest ++ l ∷ [] → l.address ≡ s.address → (lesser name : Option Span) → option_map (span_bytes bytes) lesser ≡ lesser_name (text_of bytes l) (text_of bytes s) → IfSome lesser (LiesIn bytes) → name ≡ lesser → new ≡ rest ++ record { address = s.address; name = name } ∷ [] → AreMerged bytes (xs ++ s ∷ []) new
added-join bytes xs s last old rest new l m taken here lesser name text lies is pushed =
    let x : Option Span → List Seed = λ o. rest ++ record { address = s.address; name = o } ∷ [] in
    subst (AreMerged bytes (xs ++ s ∷ [])) (sym (pushed ∙ ap x is))
    (merged-join bytes xs s last rest l (subst (AreMerged bytes xs) taken m) here lesser text lies)

-- in the order of their addresses, what stands before is not above
pub before-at : (xs : List Seed) (i : ℕ) (d : Seed) → IsNonDecreasingBy (λ (t : Seed). t.address) xs → i < length xs → All (λ (t : Seed). t.address ≤ (get_or xs i d).address) (take i xs)
before-at xs i d sorted within k e below =
    let less : k < i = omega (arith, below, length-take-le i xs (omega arith)) in
    let same = ap (λ (t : Seed). t.address) (get_or-take i xs k e less) in
    let at = ap (λ (t : Seed). t.address) (get_or_default xs i e d within) in
    let order = sorted k i e (omega arith) within in
    omega arith
