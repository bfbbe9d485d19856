-- The bytes of a section, written over a part that has all its addresses.
use Rattle.std.proofs.Common.{◌≡◌, ℕ, ◌+◌, ◌-◌, ◌<◌, ◌≤◌, ◌&&◌, Bool, true, false, cond, List, ◌++◌, length, get_or, take, drop, Some, None, refl, sym, ap, ◌∙◌, arith, inl, inr, leb, ltb}
use Rattle.std.proofs.Common.{length-append, length-take-le, length-drop}
use mathlib.Core.Path.{fun_ext}
use borrow.Rule.Slice.PartMut.{put_mid}
use Rattle.std.specs.Option.{option_or}
use Rattle.std.specs.Vec.{with_items}
use Rattle.std.proofs.Common.{Vec}
use Rattle.std.proofs.lemmas.List.{with_items_is}
use Rattle.std.proofs.lemmas.Bool.{cases_Bool, cond-true, cond-false}
use Rattle.std.proofs.lemmas.Bool.Decides.{nat_tests}
use Rattle.std.proofs.lemmas.List.{get_or-take, get_or-drop, get_or_append_left, get_or-append_right}
use Rattle.elf_image.specs.declared.section.Section.{Section}
use Rattle.elf_image.specs.Sections.{holds_bytes}
use Rattle.elf_image.specs.FaultTests.{is_out_of_file}
use Rattle.rv_machine.specs.declared.part.Part.{Part}
use Rattle.rv_machine.specs.FileMemory.{is_loaded, section_byte, section_bytes}
use Rattle.rv_machine.specs.Inner.Parts.{has_address, part_bytes, section_items}
use Rattle.rv_machine.specs.Inner.Extents.{over}
use Rattle.rv_machine.proofs.FileParts.{length-items, byte-at}

-- k bytes in the middle of a list
module _ (xs ys : List ℕ) (at k : ℕ) (fits : at + k ≤ length xs) (long : length ys ≡ k) where
  abbrev whole : List ℕ
  whole = take at xs ++ (ys ++ drop k (drop at xs))

  front : length (take at xs) ≡ at
  front = length-take-le at xs (omega arith)

  pub length-whole : length whole ≡ length xs
  length-whole =
      omega (arith, front, long, length-append (take at xs) (ys ++ drop k (drop at xs)), length-append ys (drop k (drop at xs)), length-drop k (drop at xs), length-drop at xs)

  pub whole-before : (i : ℕ) → i < at → get_or whole i 0 ≡ get_or xs i 0
  whole-before i less =
      get_or_append_left (take at xs) (ys ++ drop k (drop at xs)) 0 i (omega (arith, front)) ∙ get_or-take at xs i 0 less

  pub whole-within : (i j : ℕ) → i ≡ at + j → j < k → get_or whole i 0 ≡ get_or ys j 0
  whole-within i j is less =
      let e : i - at ≡ j = omega arith in
      get_or-append_right (take at xs) (ys ++ drop k (drop at xs)) at i 0 front (omega arith)
      ∙ ap (λ n. get_or (ys ++ drop k (drop at xs)) n 0) e
      ∙ get_or_append_left ys (drop k (drop at xs)) 0 j (omega arith)

  pub whole-after : (i : ℕ) → at + k ≤ i → get_or whole i 0 ≡ get_or xs i 0
  whole-after i more =
      let e : at + (k + (i - at - k)) ≡ i = omega arith in
      get_or-append_right (take at xs) (ys ++ drop k (drop at xs)) at i 0 front (omega arith)
      ∙ get_or-append_right ys (drop k (drop at xs)) k (i - at) 0 long (omega arith)
      ∙ get_or-drop k (drop at xs) (i - at - k) 0 ∙ get_or-drop at xs (k + (i - at - k)) 0 ∙ ap (λ n. get_or xs n 0) e

-- a vector whose middle was written
pub written-items : {Z : Type 0} (v : Vec ℕ Z) (xs ys : List ℕ) (at k : ℕ) → xs ≡ v.items → at + k ≤ length xs → length ys ≡ k → (with_items v (put_mid at k xs ys)).items ≡ put_mid at k v.items ys
written-items v xs ys at k is fits long =
    with_items_is v (put_mid at k xs ys) (length-whole xs ys at k fits long ∙ ap length is ∙ sym v.ok.0)
    ∙ ap (λ (zs : List ℕ). put_mid at k zs ys) is

-- the same test chooses between two values that are the same where it holds
chosen : (h : Bool) (x y : ℕ) → (h ≡ true → x ≡ y) → cond h (Some x) None ≡ cond h (Some y) None
chosen true x y same = ap Some (same refl)
chosen false x y same = refl

module _ (file : List ℕ) (s : Section) (loaded : is_loaded s ≡ true) (in_file : is_out_of_file (length file) s ≡ false) where
  pub section-written : (old new : Part) (at k : ℕ) (ys : List ℕ) → new.start ≡ old.start → new.bytes.items ≡ put_mid at k old.bytes.items ys → at ≡ s.address - old.start → k ≡ s.size → ys ≡ section_items file s → old.start ≤ s.address → s.address + s.size ≤ old.start + length old.bytes.items → part_bytes new ≡ over (section_bytes file s) (part_bytes old)
  section-written old new at k ys start is at_is k_is ys_is from to = fun_ext by
    where
      xs : List ℕ
      xs = old.bytes.items

      long : length ys ≡ k
      long = ap length ys_is ∙ length-items file s loaded in_file ∙ sym k_is

      fits : at + k ≤ length xs
      fits = omega arith

      same-length : length new.bytes.items ≡ length xs
      same-length = ap length is ∙ length-whole xs ys at k fits long

      has : (a : ℕ) → has_address a new ≡ has_address a old
      has a = ap (λ n. leb n a && ltb a (n + length new.bytes.items)) start ∙ ap (λ n. leb old.start a && ltb a (old.start + n)) same-length

      item : (a : ℕ) → get_or new.bytes.items (a - new.start) 0 ≡ get_or (whole xs ys at k fits long) (a - old.start) 0
      item a = ap (λ zs. get_or zs (a - new.start) 0) is ∙ ap (λ n. get_or (whole xs ys at k fits long) (a - n) 0) start

      inside-has : (a : ℕ) → holds_bytes a 1 s ≡ true → has_address a old ≡ true
      inside-has a h = grind (arith, nat_tests)

      inside-at : (a : ℕ) → holds_bytes a 1 s ≡ true → (s.address ≤ a) × (a < s.address + s.size)
      inside-at a h = grind (arith, nat_tests)

      outside-at : (a : ℕ) → holds_bytes a 1 s ≡ false → has_address a old ≡ true → get_or new.bytes.items (a - new.start) 0 ≡ get_or xs (a - old.start) 0
      outside-at a h there = elim (cases_Bool (ltb (a - old.start) at)) [
        | inl less ↦ item a ∙ whole-before xs ys at k fits long (a - old.start) (ltb-lt (a - old.start) at less)
        | inr more ↦ item a ∙ whole-after xs ys at k fits long (a - old.start) (beyond a h there more)
      ]
        where
          ltb-lt : (x y : ℕ) → ltb x y ≡ true → x < y
          ltb-lt x y e = grind (arith, nat_tests)

          beyond : (a : ℕ) → holds_bytes a 1 s ≡ false → has_address a old ≡ true → ltb (a - old.start) at ≡ false → at + k ≤ a - old.start
          beyond a h there more = grind (arith, nat_tests)

      by : (a : ℕ) → part_bytes new a ≡ over (section_bytes file s) (part_bytes old) a
      by a = elim (cases_Bool (holds_bytes a 1 s)) [
        | inl inside ↦
            let at' = inside-at a inside in
            let place : a - old.start ≡ at + (a - s.address) = omega (arith, at'.0) in
            let byte : get_or new.bytes.items (a - new.start) 0 ≡ section_byte file s a = item a ∙ whole-within xs ys at k fits long (a - old.start) (a - s.address) place (omega (arith, at'.0, at'.1)) ∙ ap (λ zs. get_or zs (a - s.address) 0) ys_is ∙ byte-at file s loaded in_file a (omega (arith, at'.0, at'.1)) in
            cond-true (has_address a new) _ None (has a ∙ inside-has a inside) ∙ ap Some byte
            ∙ sym (ap (λ o. option_or o (part_bytes old a)) (cond-true (holds_bytes a 1 s) (Some (section_byte file s a)) None inside))
        | inr outside ↦
            chosen (has_address a new) _ (get_or xs (a - old.start) 0) (λ there. outside-at a outside (sym (has a) ∙ there))
            ∙ ap (λ b. cond b (Some (get_or xs (a - old.start) 0)) None) (has a)
            ∙ sym (ap (λ o. option_or o (part_bytes old a)) (cond-false (holds_bytes a 1 s) (Some (section_byte file s a)) None outside))
      ]
