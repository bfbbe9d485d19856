-- Text that is put on a page, line by line, until a piece stands there.
use Rattle.std.proofs.Common.{◌≡◌, ℕ, suc, ◌+◌, ◌-◌, ◌<◌, ◌≤◌, List, [], ◌∷◌, ◌++◌, length, take, drop, get_or, refl, sym, ap, ◌∙◌, append_assoc, append-nil, drop-cons, subst, inl, inr, length-drop, arith}
use Rattle.std.specs.List.{flat_map}
use Rattle.std.specs.Vec.{with_items}
use Rattle.std.proofs.Common.{Vec}
use Rattle.std.proofs.lemmas.List.{with_items_is}
use Rattle.std.proofs.lemmas.Bool.{cases_lt}
use Rattle.std.proofs.lemmas.List.{length-append, take-append-le, take_at, drop_all}
use Rattle.std.proofs.lemmas.Slice.{between_is}
use lib.Seq.{paste, take-append-add, length-take-le, drop_at}
use borrow.Rule.Slice.PartMut.{put_mid}
use Rattle.graph_report.specs.declared.page.TheConstants.{PAGE_ROOM, PIECE}
use Rattle.graph_report.specs.Inner.{IsLine, Fills}
use Rattle.graph_report.proofs.Digits.{end_written}

-- the text of a page after the front of a text is copied behind it
pub page_written : (len n : ℕ) (bytes held text copied rest : List ℕ) → held ≡ bytes → copied ≡ text → len ≤ length bytes → n ≤ length text
    → take (len + n) (take len held ++ (copied ++ rest)) ≡ take len bytes ++ take n text
page_written len n bytes held text copied rest same after fits few =
    let front : length (take len bytes) ≡ len = length-take-le len bytes fits in
    rw (same, after)
    (ap (λ (k : ℕ). take (k + n) (take len bytes ++ (text ++ rest))) (sym front)
    ∙ (take-append-add (take len bytes) (text ++ rest) n
    ∙ ap (λ (xs : List ℕ). take len bytes ++ xs) (take-append-le n text rest few)))

-- a vector whose middle was written
pub middle_written : {Z : Type 0} (v : Vec ℕ Z) (held ys : List ℕ) (at k : ℕ) → held ≡ v.items → at + k ≤ length held → length ys ≡ k
    → (with_items v (put_mid at k held ys)).items ≡ put_mid at k held ys
middle_written v held ys at k is fits long =
    let front : length (take at held) ≡ at = length-take-le at held (omega arith) in
    let all : length (take at held ++ (ys ++ drop k (drop at held))) ≡ length held =
    omega (arith, front, long, length-append (take at held) (ys ++ drop k (drop at held)), length-append ys (drop k (drop at held)), length-drop k (drop at held), length-drop at held) in
    with_items_is v (put_mid at k held ys) (all ∙ ap length is ∙ sym v.ok.0)

-- and after its first bytes are taken away
pub page_dropped : (len n : ℕ) (bytes moved : List ℕ) → moved ≡ paste bytes 0 (drop n bytes) (len - n) → n ≤ len → len ≤ length bytes
    → take (len - n) moved ≡ drop n (take len bytes)
page_dropped len n bytes moved is few fits =
    let long : length (take (len - n) (drop n bytes)) ≡ len - n = length-take-le (len - n) (drop n bytes) (omega (arith, length-drop n bytes)) in
    ap (λ (xs : List ℕ). take (len - n) xs) is
    ∙ (take_at (take (len - n) (drop n bytes)) _ (len - n) long ∙ between_is bytes n len)

-- the front of a line of fixed length, after its last field is written
pub field_written : (a k len : ℕ) (word fields spaces last : List ℕ) → length word + length fields ≡ a → length spaces ≡ k
    → take (a + len) (put_mid a k (word ++ (fields ++ spaces)) last) ≡ word ++ (fields ++ take len last)
field_written a k len word fields spaces last long rest_long =
    let front : length (word ++ fields) ≡ a = length-append word fields ∙ long in
    let whole = end_written a k (word ++ (fields ++ spaces)) (word ++ fields) spaces last (sym (append_assoc word fields spaces)) front rest_long in
    ap (λ (xs : List ℕ). take (a + len) xs) whole
    ∙ (ap (λ (n : ℕ). take (n + len) ((word ++ fields) ++ last)) (sym front)
    ∙ (take-append-add (word ++ fields) last len ∙ append_assoc word fields (take len last)))

-- two fields and the last one are a line behind its word
pub fields_line : (a b w nl : List ℕ) → (32 ∷ (a ++ 32 ∷ b)) ++ (32 ∷ (w ++ nl)) ≡ (32 ∷ (a ++ 32 ∷ (b ++ 32 ∷ w))) ++ nl
fields_line a b w nl = simp append_assoc refl

-- a line of fixed length, after its fields and its last field are written: how long it is, and what its front is
module _ (a k : ℕ) (word fields spaces last : List ℕ) (long : length word + length fields ≡ a) (rest_long : length spaces ≡ k) where
  room_long : length (take k (drop a (word ++ (fields ++ spaces)))) ≡ k
  room_long =
      let front : length (word ++ fields) ≡ a = length-append word fields ∙ long in
      ap (λ (xs : List ℕ). length (take k (drop a xs))) (sym (append_assoc word fields spaces))
      ∙ (ap (λ (xs : List ℕ). length (take k xs)) (drop_at (word ++ fields) spaces a front) ∙ length-take-le k spaces (omega arith))

  pub line_length : length last ≡ length (take k (drop a (word ++ (fields ++ spaces)))) → length (put_mid a k (word ++ (fields ++ spaces)) last) ≡ a + k
  line_length last_long =
      let front : length (word ++ fields) ≡ a = length-append word fields ∙ long in
      ap length (end_written a k (word ++ (fields ++ spaces)) (word ++ fields) spaces last (sym (append_assoc word fields spaces)) front rest_long)
      ∙ (length-append (word ++ fields) last ∙ (ap (λ (n : ℕ). n + length last) front ∙ ap (λ (n : ℕ). a + n) (last_long ∙ room_long)))

  pub line_within : length last ≡ length (take k (drop a (word ++ (fields ++ spaces)))) → (n : ℕ) → n ≤ a + k → n ≤ length (put_mid a k (word ++ (fields ++ spaces)) last)
  line_within last_long n h = subst (λ (m : ℕ). n ≤ m) (sym (line_length last_long)) h

  pub line_fits : length last ≡ length (take k (drop a (word ++ (fields ++ spaces)))) → (n most : ℕ) → n + (a + k) ≤ most → n + length (put_mid a k (word ++ (fields ++ spaces)) last) ≤ most
  line_fits last_long n most h = subst (λ (m : ℕ). n + m ≤ most) (sym (line_length last_long)) h

  pub line_written : (len : ℕ) (one other end : List ℕ) → fields ≡ 32 ∷ (one ++ 32 ∷ other) → take len last ≡ 32 ∷ (end ++ 10 ∷ [])
      → take (a + len) (put_mid a k (word ++ (fields ++ spaces)) last) ≡ word ++ ((32 ∷ (one ++ 32 ∷ (other ++ 32 ∷ end))) ++ 10 ∷ [])
  line_written len one other end fields_are end_is =
      field_written a k len word fields spaces last long rest_long
      ∙ ap (λ (xs : List ℕ). word ++ xs)
      (ap (λ (xs : List ℕ). xs ++ take len last) fields_are
      ∙ (ap (λ (xs : List ℕ). (32 ∷ (one ++ 32 ∷ other)) ++ xs) end_is ∙ fields_line one other end (10 ∷ [])))

-- two parts of a text that are put on a page one after the other
pub filled_then : {page mid new a mid_a b new_b : List ℕ} → Fills page a mid mid_a → Fills mid b new new_b → Fills page (a ++ b) new (mid_a ++ new_b)
filled_then {page = page} {mid = mid} {new = new} {a = a} {mid_a = mid_a} {b = b} {new_b = new_b} one two = record {
  moves =
      elim (cases_lt (length mid) PIECE) [
        | inl few ↦
            let none : mid_a ≡ [] = one.filled few in
            let is : mid ≡ page ++ a = sym (append-nil mid) ∙ (ap (λ (xs : List ℕ). mid ++ xs) (sym none) ∙ one.moves) in
            ap (λ (xs : List ℕ). new ++ (xs ++ new_b)) none
            ∙ (two.moves ∙ (ap (λ (xs : List ℕ). xs ++ b) is ∙ append_assoc page a b))
        | inr many ↦
            let same = two.stays many in
            ap (λ (xs : List ℕ). xs ++ (mid_a ++ new_b)) same.0
            ∙ (ap (λ (xs : List ℕ). mid ++ (mid_a ++ xs)) same.1
            ∙ (sym (append_assoc mid mid_a b) ∙ (ap (λ (xs : List ℕ). xs ++ b) one.moves ∙ append_assoc page a b)))
      ];
  room = two.room;
  filled = λ few.
      elim (cases_lt (length mid) PIECE) [
        | inl less ↦ ap (λ (xs : List ℕ). xs ++ new_b) (one.filled less) ∙ two.filled few
        | inr many ↦ absurd (omega (arith, ap length (two.stays many).0))
      ];
  stays = λ full.
      let first = one.stays full in
      let second = two.stays (omega (arith, ap length first.0)) in (
        second.0 ∙ first.0,
        ap (λ (xs : List ℕ). xs ++ new_b) first.1 ∙ ap (λ (xs : List ℕ). a ++ xs) second.1,
      );
}

-- a page with a piece stays, and so does one for which nothing is left
pub filled_before : (page left : List ℕ) → length page ≤ PAGE_ROOM → PIECE ≤ length page → Fills page left page left
filled_before page left room full = record {
  moves = refl;
  room = room;
  filled = λ few. absurd (omega arith);
  stays = λ many. (refl, refl);
}

pub filled_none : (page : List ℕ) → length page ≤ PAGE_ROOM → Fills page [] page []
filled_none page room = record {
  moves = refl;
  room = room;
  filled = λ few. refl;
  stays = λ many. (refl, refl);
}

-- one line is left and put on the page
pub filled_line : (page new left : List ℕ) → length page < PIECE → new ≡ page ++ left → IsLine page new → Fills page left new []
filled_line page new left less is line = record {
  moves = append-nil new ∙ is;
  room = let most = line.1 in omega arith;
  filled = λ few. refl;
  stays = λ many. absurd (omega arith);
}

-- text moved to the page, maybe not yet until a piece stands there
pub record Moves (page left now now_left : List ℕ) : Type 0 where
  pub moved : now ++ now_left ≡ page ++ left
  pub room : length now ≤ PAGE_ROOM
  pub stays : PIECE ≤ length page → (now ≡ page) × (now_left ≡ left)

pub moves_none : (page left : List ℕ) → length page ≤ PAGE_ROOM → Moves page left page left
moves_none page left room = record { moved = refl; room = room; stays = λ many. (refl, refl) }

pub moves_more : {page left now now_left new new_left : List ℕ} → Moves page left now now_left → length now < PIECE
    → new ++ new_left ≡ now ++ now_left → length new ≤ PAGE_ROOM → Moves page left new new_left
moves_more so_far less step room = record {
  moved = step ∙ so_far.moved;
  room = room;
  stays = λ many. absurd (omega (arith, ap length (so_far.stays many).0));
}

pub moves_all : {page left now now_left : List ℕ} → Moves page left now now_left → (length now < PIECE → now_left ≡ []) → Fills page left now now_left
moves_all so_far filled = record { moves = so_far.moved; room = so_far.room; filled = filled; stays = so_far.stays }

module _ {X : Type 0} (line : X → List ℕ) (items : List X) where
  -- the line of the item at a place is put on the page
  pub line_moves : (now new : List ℕ) (at : ℕ) (x : X) → at < length items → x ≡ get_or items at x → new ≡ now ++ line x
      → new ++ flat_map line (drop (at + 1) items) ≡ now ++ flat_map line (drop at items)
  line_moves now new at x lt is text =
      let next : at + 1 ≡ suc at = omega arith in
      let here : drop at items ≡ x ∷ drop (suc at) items = drop-cons items at x lt ∙ ap (λ (y : X). y ∷ drop (suc at) items) (sym is) in
      ap (λ (xs : List ℕ). xs ++ flat_map line (drop (at + 1) items)) text
      ∙ (ap (λ (k : ℕ). (now ++ line x) ++ flat_map line (drop k items)) next
      ∙ (append_assoc now (line x) (flat_map line (drop (suc at) items))
      ∙ ap (λ (xs : List X). now ++ flat_map line xs) (sym here)))

  -- no line is left at the end
  pub no_line : (at : ℕ) → length items ≤ at → flat_map line (drop at items) ≡ []
  no_line at past = ap (λ (xs : List X). flat_map line xs) (drop_all at items past)
