-- The names in a part of a text, read one after the other.
use Rattle.std.proofs.Common.{◌≡◌, ℕ, zero, suc, ◌≤◌, true, false, List, [], ◌∷◌, ◌++◌, append_assoc, length, take, Option, Some, None, refl, sym, ap, ap₂, ◌∙◌, arith}
use Rattle.std.specs.Char.{is_ascii_alphabetic, to_ascii_lowercase}
use Rattle.std.specs.Option.{option_map}
use Rattle.elf_image.specs.declared.extensions.Extensions.{Extensions}
use Rattle.elf_image.specs.Architecture.{is_letter, is_start, names_from, after_version, without_version, all_named}
use Rattle.elf_image.specs.Inner.Architecture.{lower, join}
use Rattle.elf_image.proofs.Lower.{letter-lower}
use Rattle.elf_image.proofs.Join.{extensions-append}

-- what is no letter
pub names-bad : (n c : ℕ) (cs : List ℕ) → is_start c ≡ false → is_letter c ≡ false → names_from n (c ∷ cs) ≡ None
names-bad zero c cs none bad = refl
names-bad (suc n) c cs none bad = rw (none, bad) refl

-- a letter, and its version if it has one
names-more : (n c : ℕ) (cs : List ℕ) → is_start c ≡ false → is_letter c ≡ true → names_from (suc n) (c ∷ cs) ≡ option_map (λ names. (c ∷ []) ∷ names) (names_from n (after_version cs))
names-more n c cs none good = rw (none, good) refl

-- a name that goes to the end
names-last : (n c : ℕ) (cs : List ℕ) → is_start c ≡ true → names_from (suc n) (c ∷ cs) ≡ Some (without_version (c ∷ cs) ∷ [])
names-last n c cs starts = rw starts refl

-- names before others
pub after_seen : (seen : List (List ℕ)) (name : List ℕ) (more : Option (List (List ℕ))) → option_map (λ names. seen ++ names) (option_map (λ names. name ∷ names) more) ≡ option_map (λ names. (seen ++ name ∷ []) ++ names) more
after_seen seen name None = refl
after_seen seen name (Some names) = ap Some (sym (append_assoc seen (name ∷ []) names))

pub after_none_seen : (more : Option (List (List ℕ))) → more ≡ option_map (λ names. [] ++ names) more
after_none_seen None = refl
after_none_seen (Some names) = refl

-- what is left of a part gives the other names
abbrev pub Left : Option (List (List ℕ)) → List ℕ → Extensions → Type 0
Left whole rest found =
    (n : ℕ) × (seen : List (List ℕ)) × (length rest ≤ n) × (found ≡ all_named seen) × (whole ≡ option_map (λ names. seen ++ names) (names_from n (lower rest)))

-- one more letter
pub left-more : (whole : Option (List (List ℕ))) (rest after next : List ℕ) (c : ℕ) (found one both : Extensions) → rest ≡ c ∷ after → is_start (to_ascii_lowercase c) ≡ false → is_ascii_alphabetic c ≡ true → lower next ≡ after_version (lower after) → length next ≤ length after → one ≡ all_named (lower (take 1 rest) ∷ []) → both ≡ join found one → Left whole rest found → Left whole next both
left-more whole rest after next c found one both is none letter version shorter named joined (zero, seen, fits, before, gives) = absurd (omega (arith, ap length is))
left-more whole rest after next c found one both is none letter version shorter named joined (suc n, seen, fits, before, gives) =
    let name = to_ascii_lowercase c ∷ [] in
    let fits_next : length next ≤ n = omega (arith, ap length is) in (
      n,
      seen ++ name ∷ [],
      fits_next,
      joined ∙ ap₂ join before (named ∙ ap (λ (r : List ℕ). all_named (lower (take 1 r) ∷ [])) is) ∙ sym (extensions-append seen (name ∷ [])),
      gives ∙ ap (λ (r : List ℕ). option_map (λ names. seen ++ names) (names_from (suc n) (lower r))) is
          ∙ ap (option_map (λ names. seen ++ names)) (names-more n (to_ascii_lowercase c) (lower after) none (letter-lower c ∙ letter) ∙ ap (λ (r : List ℕ). option_map (λ names. name ∷ names) (names_from n r)) (sym version))
          ∙ after_seen seen name (names_from n (lower next)),
    )

-- the last name
pub left-last : (whole : Option (List (List ℕ))) (rest after : List ℕ) (c : ℕ) (found one both : Extensions) → rest ≡ c ∷ after → is_start (to_ascii_lowercase c) ≡ true → one ≡ all_named (without_version (lower rest) ∷ []) → both ≡ join found one → Left whole rest found → Some both ≡ option_map all_named whole
left-last whole rest after c found one both is starts named joined (zero, seen, fits, before, gives) = absurd (omega (arith, ap length is))
left-last whole rest after c found one both is starts named joined (suc n, seen, fits, before, gives) =
    let name = without_version (lower rest) in
    let last : names_from (suc n) (lower rest) ≡ Some (name ∷ []) = ap (λ (r : List ℕ). names_from (suc n) (lower r)) is ∙ names-last n (to_ascii_lowercase c) (lower after) starts ∙ ap (λ (r : List ℕ). Some (without_version (lower r) ∷ [])) (sym is) in
    ap Some (joined ∙ ap₂ join before named ∙ sym (extensions-append seen (name ∷ [])))
    ∙ sym (ap (option_map all_named) (gives ∙ ap (option_map (λ names. seen ++ names)) last))
