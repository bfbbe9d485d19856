-- Parts of memory that are apart from each other.
use Rattle.std.proofs.Common.{◌≡◌, ◌≢◌, ℕ, ◌+◌, ◌-◌, ◌<◌, ◌≤◌, ◌&&◌, true, false, List, [], ◌∷◌, map, length, get_or, set, Option, Some, None, is_some, refl, sym, ap, ◌∙◌, subst, arith, inl, inr, leb, ltb}
use Rattle.std.specs.List.{position}
use Rattle.std.specs.List.Sorted.{IsNonDecreasingBy, IsPartitionPoint}
use Rattle.std.proofs.lemmas.Bool.{cases_Bool, cases_order}
use Rattle.std.proofs.lemmas.Bool.Decides.{nat_tests}
use Rattle.std.proofs.lemmas.List.{get_or-map, get_or_default, length-map}
use Rattle.std.proofs.lemmas.List.Folds.{Any-from_list_any}
use Rattle.elf_image.specs.declared.section.Section.{Section}
use Rattle.elf_image.specs.Sections.{holds_bytes}
use Rattle.rv_machine.specs.declared.part.Part.{Part}
use Rattle.rv_machine.specs.declared.extent.Extent.{Extent}
use Rattle.rv_machine.specs.FileMemory.{section_bytes}
use Rattle.rv_machine.specs.Inner.Parts.{has_address, part_bytes}
use Rattle.rv_machine.specs.Inner.Extents.{extent_of, is_inside, over, AreApart, CoverSection}
use Rattle.rv_machine.proofs.FirstParts.{all_bytes, position-at, position-nowhere, over-at, found-nowhere}

-- an option that holds nothing
pub nothing : (o : Option ℕ) → ((x : ℕ) → o ≢ Some x) → o ≡ None
nothing None h = refl
nothing (Some x) h = absurd (h x refl)

pub has-parts : (a : ℕ) (p : Part) → has_address a p ≡ true → (p.start ≤ a) × (a < p.start + length p.bytes.items)
has-parts a p h = grind (arith, nat_tests)

has-past : (a : ℕ) (p : Part) → p.start + length p.bytes.items ≤ a → has_address a p ≡ false
has-past a p h = grind (arith, nat_tests)

has-before : (a : ℕ) (p : Part) → leb p.start a ≡ false → has_address a p ≡ false
has-before a p h = ap (λ b. b && ltb a (p.start + length p.bytes.items)) h

module _ (ps : List Part) (apart : AreApart (map extent_of ps)) where
  pub ends-before : (i j : ℕ) (d : Part) → i < j → j < length ps → (get_or ps i d).start + length (get_or ps i d).bytes.items < (get_or ps j d).start
  ends-before i j d less within =
      let first = get_or-map extent_of ps i d (extent_of d) (omega arith) in
      let second = get_or-map extent_of ps j d (extent_of d) within in
      let both = apart i j (extent_of d) less (omega (arith, length-map ps extent_of)) in
      subst (λ (x : Extent). x.end < (get_or ps j d).start) first
      (subst (λ (y : Extent). (get_or (map extent_of ps) i (extent_of d)).end < y.start) second both)

  pub starts-rise : IsNonDecreasingBy (λ (p : Part). p.start) ps
  starts-rise i j d upto within = elim (cases_order i j) [
    | inl same ↦ subst (λ k. (get_or ps i d).start ≤ (get_or ps k d).start) same (omega arith)
    | inr other ↦ elim other [
      | inl less ↦ omega (arith, ends-before i j d less within)
      | inr more ↦ absurd (omega arith)
    ]
  ]

  -- of the parts that start at an address or before, the last alone may have it
  module _ (a n : ℕ) (split : IsPartitionPoint (λ (p : Part). leb p.start a ≡ true) (λ p. leb p.start a ≡ false) ps n) where
    pub found-nothing : n ≡ 0 → position (has_address a) ps ≡ None
    found-nothing none =
        position-nowhere (has_address a) ps (λ k d below. has-before a (get_or ps k d) (split.1 k d (omega arith) below))

    earlier : (i : ℕ) (d : Part) → i < n → n ≤ length ps → (k : ℕ) → k < i → has_address a (get_or ps k d) ≡ false
    earlier i d within few k below =
        let starts : (get_or ps i d).start ≤ a = leb-le (get_or ps i d).start a (split.0 i d (omega arith) within) in
        has-past a (get_or ps k d) (omega (arith, ends-before k i d below (omega arith)))
      where
        leb-le : (x y : ℕ) → leb x y ≡ true → x ≤ y
        leb-le x y h = grind (arith, nat_tests)

    pub found-last : n ≢ 0 → n ≤ length ps → (d : Part) → has_address a (get_or ps (n - 1) d) ≡ true → position (has_address a) ps ≡ Some (n - 1)
    found-last some few d has = position-at (has_address a) ps (n - 1) d (omega arith) (earlier (n - 1) d (omega arith) few) has

    pub found-none_last : n ≢ 0 → n ≤ length ps → (d : Part) → has_address a (get_or ps (n - 1) d) ≡ false → position (has_address a) ps ≡ None
    found-none_last some few d hasnt =
        position-nowhere (has_address a) ps (λ k e below. elim (cases_order k (n - 1)) [
          | inl same ↦ subst (λ j. has_address a (get_or ps j e) ≡ false) (sym same) (default e)
          | inr other ↦ elim other [
            | inl less ↦ earlier (n - 1) e (omega arith) few k less
            | inr more ↦ has-before a (get_or ps k e) (split.1 k e (omega arith) below)
          ]
        ])
      where
        default : (e : Part) → has_address a (get_or ps (n - 1) e) ≡ false
        default e = ap (has_address a) (get_or_default ps (n - 1) e d (omega arith)) ∙ hasnt

  -- a part that has the first address of a section has all of them, if each of them is somewhere
  module _ (s : Section) (cover : CoverSection (map extent_of ps) s) (some : 0 < s.size) where
    pub holds-whole : (i : ℕ) (d : Part) → i < length ps → has_address s.address (get_or ps i d) ≡ true → s.address + s.size ≤ (get_or ps i d).start + length (get_or ps i d).bytes.items
    holds-whole i d within has =
        let p = get_or ps i d in
        let e = p.start + length p.bytes.items in
        let at = has-parts s.address p has in
        elim (cases_Bool (leb (s.address + s.size) e)) [
          | inl fits ↦ leb-le (s.address + s.size) e fits
          | inr past ↦
              let any = Any-from_list_any (is_inside e) (map extent_of ps) (cover e (in-section e (omega (arith, at.0, at.1)) (leb-lt (s.address + s.size) e past))) in
              let j = any.0 in
              let below : j < length ps = omega (arith, any.2, length-map ps extent_of) in
              let there = inside-parts e (get_or ps j d) (ap (is_inside e) (sym (get_or-map extent_of ps j d any.1 below) ∙ any.3) ∙ any.4) in
              elim (cases_order i j) [
                | inl same ↦ absurd (omega (arith, there.1, subst (λ k. (get_or ps k d).start + length (get_or ps k d).bytes.items ≤ e) same (omega arith)))
                | inr other ↦ elim other [
                  | inl less ↦ absurd (omega (arith, there.0, ends-before i j d less below))
                  | inr more ↦ absurd (omega (arith, there.1, at.0, ends-before j i d more within))
                ]
              ]
        ]
      where
        leb-le : (x y : ℕ) → leb x y ≡ true → x ≤ y
        leb-le x y h = grind (arith, nat_tests)

        leb-lt : (x y : ℕ) → leb x y ≡ false → y < x
        leb-lt x y h = grind (arith, nat_tests)

        in-section : (e : ℕ) → s.address ≤ e → e < s.address + s.size → holds_bytes e 1 s ≡ true
        in-section e from to = grind (arith, nat_tests)

        inside-parts : (e : ℕ) (p : Part) → is_inside e (extent_of p) ≡ true → (p.start ≤ e) × (e < p.start + length p.bytes.items)
        inside-parts e p h = grind (arith, nat_tests)

    -- there is such a part
    pub no-part : position (has_address s.address) ps ≡ None → true ≡ false
    no-part none =
        let any = Any-from_list_any (is_inside s.address) (map extent_of ps) (cover s.address (first-in some)) in
        let below : any.0 < length ps = omega (arith, any.2, length-map ps extent_of) in
        let d = part-there ps any.0 below in
        sym (ap (is_inside s.address) (sym (get_or-map extent_of ps any.0 d any.1 below) ∙ any.3) ∙ any.4)
        ∙ found-nowhere s.address ps none any.0 d below
      where
        first-in : 0 < s.size → holds_bytes s.address 1 s ≡ true
        first-in h = grind (arith, nat_tests)

        part-there : (qs : List Part) (k : ℕ) → k < length qs → Part
        part-there [] k below = absurd (omega arith)
        part-there (q ∷ qs) k below = q

    -- the section written to it is written to all
    pub section-over : (file : List ℕ) (i : ℕ) (d part : Part) → i < length ps → has_address s.address (get_or ps i d) ≡ true → part_bytes part ≡ over (section_bytes file s) (part_bytes (get_or ps i d)) → (a : ℕ) → all_bytes (set ps i part) a ≡ over (section_bytes file s) (all_bytes ps) a
    section-over file i d part within has is a =
        let start = (has-parts s.address (get_or ps i d) has).0 in
        over-at a ps i d part (section_bytes file s a) within
        (λ h k below. has-past a (get_or ps k d) (omega (arith, ends-before k i d below within, start, at-least a file h)))
        (ap (λ m. m a) is)
      where
        at-least : (a : ℕ) (file : List ℕ) → is_some (section_bytes file s a) ≡ true → s.address ≤ a
        at-least a file h = elim (cases_Bool (holds_bytes a 1 s)) [
          | inl holds ↦ from a holds
          | inr lacks ↦ let h' = rw lacks at h in cc
        ]
          where
            from : (a : ℕ) → holds_bytes a 1 s ≡ true → s.address ≤ a
            from a h = grind (arith, nat_tests)
