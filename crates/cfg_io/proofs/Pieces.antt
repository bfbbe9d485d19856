-- Bytes taken, and bytes appended, one piece after another.
use Rattle.std.proofs.Common.{◌≡◌, ℕ, ◌+◌, ◌≤◌, List, [], ◌++◌, length, take, drop, Some, None, Option, refl, sym, ap, ◌∙◌, subst, append_assoc, append-nil}
use Rattle.std.proofs.Math.Seq.{take-add, take-length}
use Rattle.std.proofs.lemmas.List.{take_at, length-take-le, take-append-drop, drop-drop}
use Rattle.cfg_io.specs.Told.{Takes, Appends}

-- nothing taken
pub Takes-none : (o : Option (List ℕ)) → Takes o [] o
Takes-none None = refl
Takes-none (Some left) = refl

-- a piece, and then another
pub Takes-append : (old mid new : Option (List ℕ)) (a b : List ℕ) → Takes old a mid → Takes mid b new → Takes old (a ++ b) new
Takes-append old mid None a b first second = rw (first, second) refl
Takes-append old mid (Some left) a b first second = rw (first, second) (ap Some (sym (append_assoc a b left)))

-- a buffer whose first n bytes were taken, and then the k behind them
pub Takes_more : (old mid new : Option (List ℕ)) (before after : List ℕ) (n k : ℕ) → Takes old (take n before) mid → take n after ≡ take n before → Takes mid (take k (drop n after)) new → Takes old (take (n + k) after) new
Takes_more old mid new before after n k first same second =
    let first' : Takes old (take n after) mid = rw same first in
    rw take-add (Takes-append old mid new (take n after) (take k (drop n after)) first' second)

-- nothing appended
pub Appends-none : (o : Option (List ℕ)) → Appends o [] o
Appends-none None = refl
Appends-none (Some had) = ap Some (sym (append-nil had))

-- a piece, and then another
pub Appends-append : (old mid new : Option (List ℕ)) (a b : List ℕ) → Appends old a mid → Appends mid b new → Appends old (a ++ b) new
Appends-append None mid new a b first second = rw (second, first) refl
Appends-append (Some had) mid new a b first second = rw (second, first) (ap Some (append_assoc had a b))

-- the first n bytes, and then the k behind them
pub Appends_more : (old mid new : Option (List ℕ)) (bytes : List ℕ) (n k : ℕ) → Appends old (take n bytes) mid → Appends mid (take k (drop n bytes)) new → Appends old (take (n + k) bytes) new
Appends_more old mid new bytes n k first second =
    rw take-add (Appends-append old mid new (take n bytes) (take k (drop n bytes)) first second)

-- all of them
pub Appends_all : (old new : Option (List ℕ)) (bytes : List ℕ) (n : ℕ) → n ≡ length bytes → Appends old (take n bytes) new → Appends old bytes new
Appends_all old new bytes n e h =
    let P : List ℕ → Type 0 = λ piece. Appends old piece new in
    subst P (ap (λ m. take m bytes) e ∙ take-length bytes) h

-- n bytes of a list from its place `at` on, copied to the front of a buffer
pub Takes_copied : (bytes part old new : List ℕ) (at n : ℕ) → part ≡ drop at bytes → n ≤ length part → new ≡ take n part ++ drop n old → Takes (Some part) (take n new) (Some (drop (at + n) bytes))
Takes_copied bytes part old new at n is_part fits copied =
    let front : take n new ≡ take n part = ap (take n) copied ∙ take_at (take n part) (drop n old) n (length-take-le n part fits) in
    let back : drop (at + n) bytes ≡ drop n part = sym (ap (drop n) is_part ∙ drop-drop n at bytes) in
    let whole : take n new ++ drop (at + n) bytes ≡ part = rw (front, back) (take-append-drop n part) in
    ap Some (sym whole)
