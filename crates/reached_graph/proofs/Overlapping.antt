-- The starts of blocks that overlap others, as they are found.
use Rattle.std.proofs.Common.{◌≡◌, ◌⊎◌, ℕ, ◌+◌, ◌<◌, ◌≤◌, List, [], ◌∷◌, ◌++◌, length, take, get_or, Option, Some, None, refl, sym, ap, ◌∙◌, subst, inl, inr, arith}
use Rattle.std.specs.Prelude.{Contains}
use Rattle.std.proofs.lemmas.Bool.{cases_lt}
use Rattle.std.proofs.lemmas.Option.{same_Some}
use Rattle.std.proofs.lemmas.List.{flat_map_more, get_or_append_left, get_or_push, length_push, take_more}
use Rattle.std.proofs.lemmas.List.Elements.{Contains-append_left, Contains-push, Contains-get_or}
use Rattle.reached_graph.specs.declared.leaders.Leaders.{Leaders}
use Rattle.reached_graph.specs.declared.overlaps.Overlaps.{Overlaps}
use Rattle.reached_graph.specs.Inner.Blocks.{HoldMixed, IsMixed}
use Rattle.reached_graph.specs.Inner.Overlaps.{AreOverlaps, IsFound, lasts_of, starts_of}

pub none_overlap : (found : Overlaps) → found.starts.items ≡ [] → found.before ≡ None → AreOverlaps [] [] found
none_overlap found none first = record {
  sized = refl;
  hold = record {
    start = λ a there. rw none at there;
    all = λ j below mixed. absurd (omega (arith, below));
  };
  top = λ i below. absurd (omega (arith, below));
  before = rw first refl;
}

-- with one block more
module _ (xs ks : List ℕ) (s k : ℕ) (old new : Overlaps) (are : AreOverlaps xs ks old) (before : new.before ≡ Some s) (up : old.top ≤ new.top) (high : k ≤ new.top) where
  abbrev ys : List ℕ
  ys = xs ++ s ∷ []

  abbrev ls : List ℕ
  ls = ks ++ k ∷ []

  start_at : (i : ℕ) → i < length xs → get_or ys i 0 ≡ get_or xs i 0
  start_at i within = get_or_append_left xs (s ∷ []) 0 i within

  last_at : (i : ℕ) → i < length xs → get_or ls i 0 ≡ get_or ks i 0
  last_at i within = get_or_append_left ks (k ∷ []) 0 i (omega (arith, within, are.sized))

  start_new : (i : ℕ) → i ≡ length xs → get_or ys i 0 ≡ s
  start_new i is = get_or_push xs s 0 i (sym is)

  last_new : (i : ℕ) → i ≡ length xs → get_or ls i 0 ≡ k
  last_new i is = get_or_push ks k 0 i (are.sized ∙ sym is)

  sizes : length ys ≡ length xs + 1
  sizes = length_push xs s

  tops : (i : ℕ) → i < length ys → get_or ls i 0 ≤ new.top
  tops i within = elim (cases_lt i (length xs)) [
    | inl less ↦ omega (arith, last_at i less, are.top i less, up)
    | inr past ↦ omega (arith, last_new i (omega (arith, within, past, sizes)), high)
  ]

  -- what holds of the starts found before, and of both starts at hand if the block starts in another
  mixed_more : (Found : ℕ → Type 0) → ((a : ℕ) → Contains old.starts.items a → Found a) → (s ≤ old.top → Found s) → ((j : ℕ) → length xs ≡ j + 1 → s ≤ old.top → Found (get_or xs j 0))
      → (j : ℕ) → j < length ys → IsMixed ys ls j → Found (get_or ys j 0)
  mixed_more Found kept here back j within mixed = elim (cases_lt j (length xs)) [
    | inl less ↦ subst Found (sym (start_at j less)) (elim mixed [
      | inl over ↦ elim (cases_lt (j + 1) (length xs)) [
        | inl further ↦ kept (get_or xs j 0) (are.hold.all j less (inl (further, omega (arith, over.1, start_at (j + 1) further, last_at j less))))
        | inr past ↦
            let at : j + 1 ≡ length xs = omega (arith, past, less) in
            back j (sym at) (omega (arith, over.1, start_new (j + 1) at, last_at j less, are.top j less))
      ]
      | inr under ↦
          let i : ℕ = under.0 in
          kept (get_or xs j 0) (are.hold.all j less (inr (i, under.1, omega (arith, under.2, start_at j less, last_at i (omega (arith, under.1, less))))))
    ])
    | inr past ↦
        let at : j ≡ length xs = omega (arith, within, past, sizes) in
        subst Found (sym (start_new j at)) (elim mixed [
          | inl over ↦ absurd (omega (arith, over.0, at, sizes))
          | inr under ↦
              let i : ℕ = under.0 in
              let less : i < length xs = omega (arith, under.1, at) in
              here (omega (arith, under.2, start_new j at, last_at i less, are.top i less))
        ])
  ]

  both_overlap : (hold : HoldMixed ys ls new.starts.items) → AreOverlaps ys ls new
  both_overlap hold = record {
    sized = length_push ks k ∙ ap (λ n. n + 1) are.sized ∙ sym sizes;
    hold = hold;
    top = tops;
    before = rw before (length xs, sizes, start_new (length xs) refl);
  }

  -- it starts in no other
  pub clear_overlap : old.top < s → new.starts ≡ old.starts → AreOverlaps ys ls new
  clear_overlap above same =
      both_overlap (rw same (record {
        start = λ a there. Contains-append_left xs (s ∷ []) a (are.hold.start a there);
        all = mixed_more (Contains old.starts.items) (λ a there. there) (λ low. absurd (omega (arith, low, above))) (λ j is low. absurd (omega (arith, low, above)));
      }))

  -- it may start in another
  module _ (mid : Overlaps) (found : IsFound s old mid) (same : new.starts ≡ mid.starts) where
    earlier_start : (o : Option ℕ) → old.before ≡ o → (a : ℕ) → o ≡ Some a → Contains xs a
    earlier_start None is a other = absurd (cc)
    earlier_start (Some b) is a other =
        let last = rw is at are.before in
        let at : ℕ = last.0 in
        subst (Contains xs) (last.2 ∙ same_Some b a other) (Contains-get_or xs at 0 (omega (arith, last.1)))

    earlier_found : (o : Option ℕ) → old.before ≡ o → (j : ℕ) → length xs ≡ j + 1 → Contains mid.starts.items (get_or xs j 0)
    earlier_found None is j size = absurd (let none : length xs ≡ 0 = rw is at are.before in omega (arith, none, size))
    earlier_found (Some b) is j size =
        let last = rw is at are.before in
        let same_place : last.0 ≡ j = omega (arith, last.1, size) in
        let there : Contains mid.starts.items b = rw is at found.earlier in
        subst (Contains mid.starts.items) (sym (ap (λ n. get_or xs n 0) (sym same_place) ∙ last.2)) there

    pub found_overlap : AreOverlaps ys ls new
    found_overlap =
        both_overlap (rw same (record {
          start = λ a there. elim (found.only a there) [
            | inl was ↦ Contains-append_left xs (s ∷ []) a (are.hold.start a was)
            | inr rest ↦ elim rest [
              | inl e ↦ subst (Contains ys) (sym e) (Contains-push xs s)
              | inr e ↦ Contains-append_left xs (s ∷ []) a (earlier_start old.before refl a e)
            ]
          ];
          all = mixed_more (Contains mid.starts.items) found.kept (λ low. found.here) (λ j size low. earlier_found old.before refl j size);
        }))

-- either way
pub more_overlap : (xs ks : List ℕ) (s k : ℕ) (old mid new : Overlaps) → IsFound s old mid ⊎ ((old.top < s) × (mid ≡ old)) → new.starts ≡ mid.starts → new.before ≡ Some s → mid.top ≤ new.top → k ≤ new.top
    → AreOverlaps xs ks old → AreOverlaps (xs ++ s ∷ []) (ks ++ k ∷ []) new
more_overlap xs ks s k old mid new known same before up high are = elim known [
  | inl found ↦ found_overlap xs ks s k old new are before (omega (arith, up, found.top)) high mid found same
  | inr clear ↦
      let top : old.top ≡ mid.top = sym (ap (λ (o : Overlaps). o.top) clear.1) in
      clear_overlap xs ks s k old new are before (omega (arith, up, top)) high clear.0 (same ∙ ap (λ (o : Overlaps). o.starts) clear.1)
]

-- after some lists, those of one more
pub lists_more : (lists : List Leaders) (i : ℕ) (d : Leaders) (found : Overlaps) → i < length lists → AreOverlaps (starts_of (take i lists) ++ (get_or lists i d).starts.items) (lasts_of (take i lists) ++ (get_or lists i d).lasts.items) found
    → AreOverlaps (starts_of (take (i + 1) lists)) (lasts_of (take (i + 1) lists)) found
lists_more lists i d found within are =
    rw (take_more lists i d within) (rw (sym (flat_map_more (λ (blocks : Leaders). blocks.starts.items) [] (take i lists) (get_or lists i d)), sym (flat_map_more (λ (blocks : Leaders). blocks.lasts.items) [] (take i lists) (get_or lists i d))) are)
