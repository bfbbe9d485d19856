-- Records that stand one after the other.
use Rattle.std.proofs.Common.{◌≡◌, ℕ, zero, suc, ◌<◌, ◌≤◌, true, false, cond, List, length, Option, Some, None, refl, sym, ◌∙◌, arith}
use Rattle.std.proofs.lemmas.Bool.{cond-true, cond-false}
use Rattle.elf_image.specs.Attributes.{Record, first_wanted}

module _ (read : List ℕ → Option Record) where
  -- one that is not there or is broken
  pub first_wanted-none : (n : ℕ) (bytes : List ℕ) → read bytes ≡ None → first_wanted read n bytes ≡ None
  first_wanted-none zero bytes none = refl
  first_wanted-none (suc n) bytes none = rw none refl

  -- one that is there
  pub first_wanted-some : (n : ℕ) (bytes : List ℕ) (r : Record) → read bytes ≡ Some r → first_wanted read (suc n) bytes ≡ cond r.is_wanted (Some r.body) (first_wanted read n r.rest)
  first_wanted-some n bytes r some = rw some refl

  -- what is left of the records gives the answer
  abbrev pub Left : Option (List ℕ) → List ℕ → Type 0
  Left whole rest = (n : ℕ) × (length rest ≤ n) × (first_wanted read n rest ≡ whole)

  -- one that is looked for, and one that is not
  pub left-here : (whole : Option (List ℕ)) (rest : List ℕ) (r : Record) → read rest ≡ Some r → r.is_wanted ≡ true → length r.rest < length rest → Left whole rest → Some r.body ≡ whole
  left-here whole rest r some is_wanted shorter (zero, fits, gives) = absurd (omega arith)
  left-here whole rest r some is_wanted shorter (suc n, fits, gives) =
      sym (first_wanted-some n rest r some ∙ cond-true r.is_wanted (Some r.body) (first_wanted read n r.rest) is_wanted) ∙ gives

  pub left-more : (whole : Option (List ℕ)) (rest : List ℕ) (r : Record) → read rest ≡ Some r → r.is_wanted ≡ false → length r.rest < length rest → Left whole rest → Left whole r.rest
  left-more whole rest r some other shorter (zero, fits, gives) = absurd (omega arith)
  left-more whole rest r some other shorter (suc n, fits, gives) =
      (n, omega arith, sym (first_wanted-some n rest r some ∙ cond-false r.is_wanted (Some r.body) (first_wanted read n r.rest) other) ∙ gives)

  -- no further one
  pub left-end : (whole : Option (List ℕ)) (rest : List ℕ) → read rest ≡ None → Left whole rest → None ≡ whole
  left-end whole rest none (n, fits, gives) = sym (first_wanted-none n rest none) ∙ gives
