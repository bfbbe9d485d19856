-- The bytes of a section, and the first sections of a file.
use Rattle.std.proofs.Common.{◌≡◌, ℕ, ◌+◌, ◌-◌, ◌<◌, ◌≤◌, true, false, cond, List, [], ◌∷◌, ◌++◌, length, get_or, take, drop, refl, sym, ap, ◌∙◌, arith, inl, inr, ltb, add-one}
use Rattle.std.specs.Prelude.{sum_by}
use Rattle.std.specs.List.{filter}
use Rattle.std.proofs.lemmas.Bool.{cases_Bool, ltb-false, lt-ltb}
use Rattle.std.proofs.lemmas.Bool.Decides.{nat_tests}
use Rattle.std.proofs.lemmas.List.{get_or-take, get_or-drop, get_or-replicate, length-replicate, length-take-le, take-append-drop}
use Rattle.std.proofs.Common.{length-drop}
use Rattle.std.proofs.lemmas.List.Elements.{filter-append}
use Rattle.std.proofs.lemmas.List.Sums.{sum_by-append}
use Rattle.std.proofs.Math.Seq.{take-suc, take-length}
use Rattle.elf_image.specs.declared.section.Section.{Section}
use Rattle.elf_image.specs.Header.{section_count}
use Rattle.elf_image.specs.Sections.{section, sections, is_null, is_nobits}
use Rattle.elf_image.specs.FaultTests.{is_out_of_file}
use Rattle.elf_image.proofs.Ranges.{length-sections, get_or-sections}
use Rattle.rv_machine.specs.FileMemory.{is_loaded, section_byte, loaded_sections, is_too_much}
use Rattle.rv_machine.specs.Inner.Parts.{section_items}

-- ---- one section

-- the bytes of a section of a file
module _ (file : List ℕ) (s : Section) (loaded : is_loaded s ≡ true) (in_file : is_out_of_file (length file) s ≡ false) where
  fits : is_nobits s ≡ false → s.offset + s.size ≤ length file
  fits bytes =
      let not_null : is_null s ≡ false = grind (arith, nat_tests, loaded) in
      ltb-false (length file) (s.offset + s.size) (rw (not_null, bytes) at in_file)

  pub length-items : length (section_items file s) ≡ s.size
  length-items = elim (cases_Bool (is_nobits s)) [
    | inl zeros ↦ rw zeros (length-replicate s.size 0)
    | inr bytes ↦
        let room = fits bytes in
        rw bytes (length-take-le s.size (drop s.offset file) (omega (arith, length-drop s.offset file)))
  ]

  pub byte-at : (a : ℕ) → a - s.address < s.size → get_or (section_items file s) (a - s.address) 0 ≡ section_byte file s a
  byte-at a below = elim (cases_Bool (is_nobits s)) [
    | inl zeros ↦ rw zeros (get_or-replicate s.size (a - s.address) 0 0 below)
    | inr bytes ↦ rw bytes (get_or-take s.size (drop s.offset file) (a - s.address) 0 below ∙ get_or-drop s.offset file (a - s.address) 0)
  ]

-- ---- the first sections of a file

-- those of the first n that take up memory
abbrev pub first_loaded : List ℕ → ℕ → List Section
first_loaded file n = filter is_loaded (take n (sections file))

one-more : (file : List ℕ) (i : ℕ) → i < section_count file → take (i + 1) (sections file) ≡ take i (sections file) ++ section file i ∷ []
one-more file i below =
    let there : i < length (sections file) = omega (arith, length-sections file) in
    ap (λ n. take n (sections file)) (add-one i) ∙ take-suc (sections file) i (section file i) there
    ∙ ap (λ s. take i (sections file) ++ s ∷ []) (get_or-sections file i (section file i) below)

pub loaded-more : (file : List ℕ) (i : ℕ) (s : Section) → s ≡ section file i → i < section_count file → is_loaded s ≡ true → first_loaded file (i + 1) ≡ first_loaded file i ++ s ∷ []
loaded-more file i s is below is_yes =
    ap (filter is_loaded) (one-more file i below ∙ ap (λ t. take i (sections file) ++ t ∷ []) (sym is))
    ∙ filter-append is_loaded (take i (sections file)) (s ∷ []) ∙ ap (λ b. first_loaded file i ++ cond b (s ∷ []) []) is_yes

append-nil : (xs : List Section) → xs ++ [] ≡ xs
append-nil [] = refl
append-nil (x ∷ xs) = ap (λ ys. x ∷ ys) (append-nil xs)

pub loaded-skip : (file : List ℕ) (i : ℕ) (s : Section) → s ≡ section file i → i < section_count file → is_loaded s ≡ false → first_loaded file (i + 1) ≡ first_loaded file i
loaded-skip file i s is below is_no =
    ap (filter is_loaded) (one-more file i below ∙ ap (λ t. take i (sections file) ++ t ∷ []) (sym is))
    ∙ filter-append is_loaded (take i (sections file)) (s ∷ []) ∙ ap (λ b. first_loaded file i ++ cond b (s ∷ []) []) is_no
    ∙ append-nil (first_loaded file i)

pub loaded-all : (file : List ℕ) → first_loaded file (section_count file) ≡ loaded_sections file
loaded-all file = ap (filter is_loaded) (ap (λ n. take n (sections file)) (sym (length-sections file)) ∙ take-length (sections file))

-- ---- their sizes

abbrev pub size_of : List Section → ℕ
size_of xs = sum_by (λ s. s.size) xs

pub size-more : (file : List ℕ) (i : ℕ) (s : Section) → s ≡ section file i → i < section_count file → is_loaded s ≡ true → size_of (first_loaded file (i + 1)) ≡ size_of (first_loaded file i) + s.size
size-more file i s is below is_yes =
    ap size_of (loaded-more file i s is below is_yes) ∙ sum_by-append (λ t. t.size) (first_loaded file i) (s ∷ []) ∙ omega arith

pub size-skip : (file : List ℕ) (i : ℕ) (s : Section) → s ≡ section file i → i < section_count file → is_loaded s ≡ false → size_of (first_loaded file (i + 1)) ≡ size_of (first_loaded file i)
size-skip file i s is below is_no = ap size_of (loaded-skip file i s is below is_no)

-- the first of them have no more than all
pub size-first : (file : List ℕ) (n : ℕ) → size_of (first_loaded file n) ≤ size_of (loaded_sections file)
size-first file n =
    let whole = ap (filter is_loaded) (sym (take-append-drop n (sections file))) ∙ filter-append is_loaded (take n (sections file)) (drop n (sections file)) in
    let sizes : size_of (loaded_sections file) ≡ size_of (first_loaded file n) + size_of (filter is_loaded (drop n (sections file))) = ap size_of whole ∙ sum_by-append (λ t. t.size) (first_loaded file n) (filter is_loaded (drop n (sections file))) in
    omega arith

-- ---- whether they ask for too much

pub too-much : (file : List ℕ) (i : ℕ) (s : Section) (total : ℕ) → s ≡ section file i → i < section_count file → is_loaded s ≡ true → total ≡ size_of (first_loaded file i) → total ≤ 268435456 → 268435456 - total < s.size → is_too_much file ≡ true
unfolding is_too_much
too-much file i s total is below is_yes known small more =
    lt-ltb 268435456 (size_of (loaded_sections file)) (omega (arith, size-first file (i + 1), size-more file i s is below is_yes))

pub not-too-much : (file : List ℕ) (total : ℕ) → total ≡ size_of (first_loaded file (section_count file)) → total ≤ 268435456 → is_too_much file ≡ false
unfolding is_too_much
not-too-much file total known small =
    le-ltb-false 268435456 (size_of (loaded_sections file)) (omega (arith, ap size_of (loaded-all file)))
  where
    le-ltb-false : (a b : ℕ) → b ≤ a → ltb a b ≡ false
    le-ltb-false a b h = grind (arith, nat_tests)
