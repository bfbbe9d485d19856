-- Lines one after another: where a list of lines ends is determined.
use Rattle.std.proofs.Common.{◌≡◌, ℕ, ◌+◌, ◌-◌, ◌<◌, List, [], ◌∷◌, ◌++◌, length, get_or, map, Option, Some, None, refl, sym, ap, subst, ◌∙◌, append_assoc, append-nil, arith, inl, inr}
use Rattle.std.specs.List.{flat_map, AllByRecursion}
use Rattle.std.specs.List.Sorted.{IsStrictlyIncreasing}
use Rattle.std.proofs.lemmas.Bool.{cases_lt}
use Rattle.std.proofs.lemmas.List.{length-append, get_or_append_left, get_or_at}
use Rattle.std.proofs.lemmas.List.Concat.{flat_map-append}
use Rattle.cert_text.specs.Reading.{◌>>=◌, after}
use Rattle.cert_text.specs.Sections.{IsSection, EndsBelow}
use Rattle.cert_text.proofs.Fields.{some, some_is, after_takes}

-- A form of line: its word, its text, which lines fit, and what reads it after its word.
pub record IsForm (X : Type 0) (word : List ℕ) (text_of : X → List ℕ) (FitsLine : X → Type 0) (read : List ℕ → Option (X × List ℕ)) : Type 0 where
  pub takes : (bytes : List ℕ) (x : X) (rest : List ℕ) → read bytes ≡ Some (x, rest) → (word ++ bytes ≡ text_of x ++ rest) × FitsLine x
  pub again : (x : X) (rest : List ℕ) → FitsLine x → (after word (text_of x ++ rest) >>= read) ≡ Some (x, rest)

-- where no line stands, and where one stands
none_is_no_line : {X : Type 0} (word : List ℕ) (text_of : X → List ℕ) (FitsLine : X → Type 0) (read : List ℕ → Option (X × List ℕ)) (form : IsForm X word text_of FitsLine read) (x : X) (bytes rest : List ℕ) → FitsLine x → bytes ≡ text_of x ++ rest → after word bytes ≡ None → ⊥
none_is_no_line {X} word text_of FitsLine read form x bytes rest fits text over =
    let line : (after word bytes >>= read) ≡ Some (x, rest) = ap (λ (y : List ℕ). after word y >>= read) text ∙ form.again x rest fits in
    let none : (after word bytes >>= read) ≡ None = ap (λ (r : Option (List ℕ)). r >>= read) over in
    cc

-- a list of lines and a rest without one go on from lines that were read
pub goes_on : {X : Type 0} (word : List ℕ) (text_of : X → List ℕ) (FitsLine : X → Type 0) (read : List ℕ → Option (X × List ℕ)) (form : IsForm X word text_of FitsLine read)
    (xs ys : List X) (rest end : List ℕ) → AllByRecursion FitsLine xs → AllByRecursion FitsLine ys → after word end ≡ None → flat_map text_of xs ++ rest ≡ flat_map text_of ys ++ end
    → (more : List X) × (ys ≡ xs ++ more) × (rest ≡ flat_map text_of more ++ end) × AllByRecursion FitsLine more
goes_on word text_of FitsLine read form [] ys rest end fits fit over e = (ys, refl, e, fit)
goes_on word text_of FitsLine read form (x ∷ xs) [] rest end fits fit over e =
    absurd (none_is_no_line word text_of FitsLine read form x end (flat_map text_of xs ++ rest) fits.0 (sym e ∙ append_assoc (text_of x) (flat_map text_of xs) rest) over)
goes_on {X} word text_of FitsLine read form (x ∷ xs) (y ∷ ys) rest end fits fit over e =
    let left : (after word (flat_map text_of (x ∷ xs) ++ rest) >>= read) ≡ some (x, flat_map text_of xs ++ rest) = ap (λ (z : List ℕ). after word z >>= read) (append_assoc (text_of x) (flat_map text_of xs) rest) ∙ form.again x (flat_map text_of xs ++ rest) fits.0 in
    let right : (after word (flat_map text_of (y ∷ ys) ++ end) >>= read) ≡ some (y, flat_map text_of ys ++ end) = ap (λ (z : List ℕ). after word z >>= read) (append_assoc (text_of y) (flat_map text_of ys) end) ∙ form.again y (flat_map text_of ys ++ end) fit.0 in
    let both : some (x, flat_map text_of xs ++ rest) ≡ some (y, flat_map text_of ys ++ end) = sym left ∙ ap (λ (z : List ℕ). after word z >>= read) e ∙ right in
    let same = some_is (x, flat_map text_of xs ++ rest) (y, flat_map text_of ys ++ end) both in
    let first : x ≡ y = ap (λ (p : X × List ℕ). p.0) same in
    let others : flat_map text_of xs ++ rest ≡ flat_map text_of ys ++ end = ap (λ (p : X × List ℕ). p.1) same in
    let more = goes_on word text_of FitsLine read form xs ys rest end fits.1 fit.1 over others in
    (more.0, ap (λ (z : X). z ∷ ys) (sym first) ∙ ap (λ (zs : List X). x ∷ zs) more.1, more.2, more.3)

-- ---- the end of a list

no_more : {X : Type 0} (word : List ℕ) (text_of : X → List ℕ) (FitsLine : X → Type 0) (read : List ℕ → Option (X × List ℕ)) (form : IsForm X word text_of FitsLine read)
    (xs ys : List X) (rest end : List ℕ) (more : List X) → after word rest ≡ None → ys ≡ xs ++ more → rest ≡ flat_map text_of more ++ end → AllByRecursion FitsLine more → (xs ≡ ys) × (rest ≡ end)
no_more word text_of FitsLine read form xs ys rest end [] stop lines text fits = (sym (append-nil xs) ∙ sym lines, text)
no_more word text_of FitsLine read form xs ys rest end (x ∷ more) stop lines text fits =
    absurd (none_is_no_line word text_of FitsLine read form x rest (flat_map text_of more ++ end) fits.0 (text ∙ append_assoc (text_of x) (flat_map text_of more) end) stop)

-- lines that were read, up to where none stands, are all lines
pub ends_here : {X : Type 0} (word : List ℕ) (text_of : X → List ℕ) (at : X → ℕ) (FitsLine : X → Type 0) (read : List ℕ → Option (X × List ℕ)) (form : IsForm X word text_of FitsLine read)
    (bytes : List ℕ) (xs ys : List X) (rest end : List ℕ) → IsSection text_of at FitsLine bytes xs rest → after word rest ≡ None → IsSection text_of at FitsLine bytes ys end → after word end ≡ None → (xs ≡ ys) × (rest ≡ end)
ends_here word text_of at FitsLine read form bytes xs ys rest end section stop other over =
    let more = goes_on word text_of FitsLine read form xs ys rest end section.fits other.fits over (sym section.text ∙ other.text) in
    no_more word text_of FitsLine read form xs ys rest end more.0 stop more.1 more.2 more.3

first_line : {X : Type 0} (word : List ℕ) (text_of : X → List ℕ) (FitsLine : X → Type 0) (read : List ℕ → Option (X × List ℕ)) (form : IsForm X word text_of FitsLine read)
    (xs ys : List X) (rest end fields : List ℕ) (more : List X) → after word rest ≡ Some fields → after word end ≡ None → ys ≡ xs ++ more → rest ≡ flat_map text_of more ++ end → AllByRecursion FitsLine more
    → (x : X) × (more : List X) × (others : List ℕ) × (ys ≡ xs ++ x ∷ more) × (read fields ≡ Some (x, others))
first_line word text_of FitsLine read form xs ys rest end fields [] stands over lines text fits =
    let none : after word rest ≡ None = ap (after word) text ∙ over in
    absurd cc
first_line word text_of FitsLine read form xs ys rest end fields (x ∷ more) stands over lines text fits =
    let line : (after word rest >>= read) ≡ Some (x, flat_map text_of more ++ end) = ap (λ (y : List ℕ). after word y >>= read) (text ∙ append_assoc (text_of x) (flat_map text_of more) end) ∙ form.again x (flat_map text_of more ++ end) fits.0 in
    (x, more, flat_map text_of more ++ end, lines, sym (ap (λ (r : Option (List ℕ)). r >>= read) stands) ∙ line)

-- where the word of a line stands, a line of any such list stands
pub next_line : {X : Type 0} (word : List ℕ) (text_of : X → List ℕ) (at : X → ℕ) (FitsLine : X → Type 0) (read : List ℕ → Option (X × List ℕ)) (form : IsForm X word text_of FitsLine read)
    (bytes : List ℕ) (xs ys : List X) (rest end fields : List ℕ) → IsSection text_of at FitsLine bytes xs rest → after word rest ≡ Some fields → IsSection text_of at FitsLine bytes ys end → after word end ≡ None
    → (x : X) × (more : List X) × (others : List ℕ) × (ys ≡ xs ++ x ∷ more) × (read fields ≡ Some (x, others))
next_line word text_of at FitsLine read form bytes xs ys rest end fields section stands other over =
    let more = goes_on word text_of FitsLine read form xs ys rest end section.fits other.fits over (sym section.text ∙ other.text) in
    first_line word text_of FitsLine read form xs ys rest end fields more.0 stands over more.1 more.2 more.3

-- ---- one line more

map-push : {X : Type 0} (at : X → ℕ) (xs : List X) (x : X) (more : List X) → map at (xs ++ x ∷ more) ≡ map at xs ++ at x ∷ map at more
map-push at [] x more = refl
map-push at (y ∷ xs) x more = ap (λ (ns : List ℕ). at y ∷ ns) (map-push at xs x more)

rises_more : (ns : List ℕ) (a : ℕ) → IsStrictlyIncreasing ns → EndsBelow ns a → IsStrictlyIncreasing (ns ++ a ∷ [])
rises_more ns a rises below k inside =
    let long : length (ns ++ a ∷ []) ≡ length ns + 1 = length-append ns (a ∷ []) in
    let here : get_or (ns ++ a ∷ []) k 0 ≡ get_or ns k 0 = get_or_append_left ns (a ∷ []) 0 k (omega arith) in
    elim (cases_lt (k + 1) (length ns)) [
      | inl lt ↦ omega (arith, here, get_or_append_left ns (a ∷ []) 0 (k + 1) lt, rises k lt)
      | inr ge ↦
          let last : k ≡ length ns - 1 = omega arith in
          let next : get_or (ns ++ a ∷ []) (k + 1) 0 ≡ a = get_or_at ns a [] 0 (k + 1) (omega arith) in
          let low : get_or ns (length ns - 1) 0 < a = below (omega arith) in
          let end : get_or ns k 0 ≡ get_or ns (length ns - 1) 0 = ap (λ (i : ℕ). get_or ns i 0) last in
          omega arith
    ]

-- a list that rises through a number ended below it
ends_below : (ns more : List ℕ) (a : ℕ) → IsStrictlyIncreasing (ns ++ a ∷ more) → EndsBelow ns a
ends_below ns more a rises some =
    let k = length ns - 1 in
    let inside : k + 1 < length (ns ++ a ∷ more) = omega (arith, length-append ns (a ∷ more)) in
    let here : get_or (ns ++ a ∷ more) k 0 ≡ get_or ns k 0 = get_or_append_left ns (a ∷ more) 0 k (omega arith) in
    let next : get_or (ns ++ a ∷ more) (k + 1) 0 ≡ a = get_or_at ns a more 0 (k + 1) (omega arith) in
    omega (arith, rises k inside)

all_more : {X : Type 0} (P : X → Type 0) (xs : List X) (x : X) → AllByRecursion P xs → P x → AllByRecursion P (xs ++ x ∷ [])
all_more P [] x all one = (one, tt)
all_more P (y ∷ xs) x all one = (all.0, all_more P xs x all.1 one)

-- the lines that were read, and one more
pub one_more : {X : Type 0} (word : List ℕ) (text_of : X → List ℕ) (at : X → ℕ) (FitsLine : X → Type 0) (read : List ℕ → Option (X × List ℕ)) (form : IsForm X word text_of FitsLine read)
    (bytes : List ℕ) (xs : List X) (rest fields : List ℕ) (x : X) (others : List ℕ) → IsSection text_of at FitsLine bytes xs rest → after word rest ≡ Some fields → read fields ≡ Some (x, others) → EndsBelow (map at xs) (at x)
    → IsSection text_of at FitsLine bytes (xs ++ x ∷ []) others
one_more {X} word text_of at FitsLine read form bytes xs rest fields x others section stands line below =
    let front = form.takes fields x others line in
    let text : rest ≡ text_of x ++ others = after_takes word rest fields stands ∙ front.0 in
    let joined : flat_map text_of (xs ++ x ∷ []) ≡ flat_map text_of xs ++ text_of x = flat_map-append text_of xs (x ∷ []) ∙ ap (λ (y : List ℕ). flat_map text_of xs ++ y) (append-nil (text_of x)) in
    record {
      text = section.text ∙ ap (λ (y : List ℕ). flat_map text_of xs ++ y) text ∙ sym (append_assoc (flat_map text_of xs) (text_of x) others) ∙ ap (λ (y : List ℕ). y ++ others) (sym joined);
      rises = subst IsStrictlyIncreasing (sym (map-push at xs x [])) (rises_more (map at xs) (at x) section.rises below);
      fits = all_more FitsLine xs x section.fits front.1;
    }

-- no list goes on with a line whose address is not above the last
pub no_such_line : {X : Type 0} (word : List ℕ) (text_of : X → List ℕ) (at : X → ℕ) (FitsLine : X → Type 0) (read : List ℕ → Option (X × List ℕ)) (form : IsForm X word text_of FitsLine read)
    (bytes : List ℕ) (xs ys : List X) (rest end fields : List ℕ) (x : X) (others : List ℕ) → IsSection text_of at FitsLine bytes xs rest → after word rest ≡ Some fields → read fields ≡ Some (x, others)
    → IsSection text_of at FitsLine bytes ys end → after word end ≡ None → EndsBelow (map at xs) (at x)
no_such_line {X} word text_of at FitsLine read form bytes xs ys rest end fields x others section stands line other over =
    let next = next_line word text_of at FitsLine read form bytes xs ys rest end fields section stands other over in
    let both : some (x, others) ≡ some (next.0, next.2) = sym line ∙ next.4 in
    let same : next.0 ≡ x = ap (λ (p : X × List ℕ). p.0) (sym (some_is (x, others) (next.0, next.2) both)) in
    let rises : IsStrictlyIncreasing (map at xs ++ at next.0 ∷ map at next.1) = subst IsStrictlyIncreasing (ap (map at) next.3 ∙ map-push at xs next.0 next.1) other.rises in
    subst (λ (y : X). EndsBelow (map at xs) (at y)) same (ends_below (map at xs) (map at next.1) (at next.0) rises)

-- a line has a byte
pub shorter : {X : Type 0} (word : List ℕ) (text_of : X → List ℕ) (FitsLine : X → Type 0) (read : List ℕ → Option (X × List ℕ)) (form : IsForm X word text_of FitsLine read)
    (rest fields : List ℕ) (x : X) (others : List ℕ) → after word rest ≡ Some fields → read fields ≡ Some (x, others) → 0 < length (text_of x) → length others < length rest
shorter word text_of FitsLine read form rest fields x others stands line long =
    let text : rest ≡ text_of x ++ others = after_takes word rest fields stands ∙ (form.takes fields x others line).0 in
    omega (arith, ap length text ∙ length-append (text_of x) others)
