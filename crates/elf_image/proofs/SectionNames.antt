-- The names of the sections, by the section that has them.
use Rattle.std.proofs.Common.{◌≡◌, ℕ, ◌-◌, ◌<◌, ◌≤◌, true, false, List, [], length, take, drop, min, ltb, refl, sym, ap, ap₂, ◌∙◌, arith, inl, inr}
use Rattle.std.proofs.lemmas.Bool.{cases_lt, lt-ltb}
use Rattle.std.proofs.lemmas.List.{drop_all, take_all, length-drop}
use Rattle.std.proofs.lemmas.Bool.Decides.{nat_tests}
use Rattle.elf_image.specs.declared.section.Section.{Section}
use Rattle.elf_image.specs.Header.{section_count, names_index}
use Rattle.elf_image.specs.Sections.{section, section_names, is_string_table}

not_below : (i n : ℕ) → n ≤ i → ltb i n ≡ false
not_below i n past = grind (arith, nat_tests)

-- there is no such section
pub names-past : (bytes : List ℕ) (i n : ℕ) → i ≡ names_index bytes → n ≡ section_count bytes → n ≤ i → [] ≡ section_names bytes
unfolding section_names
names-past bytes i n index count past =
    let out : ltb (names_index bytes) (section_count bytes) ≡ false = ap₂ ltb (sym index) (sym count) ∙ not_below i n past in
    rw out refl

module _ (bytes : List ℕ) (i n : ℕ) (index : i ≡ names_index bytes) (count : n ≡ section_count bytes) (below : i < n) (s : Section) (is : s ≡ section bytes i) where
  within : ltb (names_index bytes) (section_count bytes) ≡ true
  within = ap₂ ltb (sym index) (sym count) ∙ lt-ltb i n below

  same : section bytes (names_index bytes) ≡ s
  same = ap (section bytes) (sym index) ∙ sym is

  -- it is no string table
  pub names-other : is_string_table s ≡ false → [] ≡ section_names bytes
  unfolding section_names
  names-other other =
      let kind : is_string_table (section bytes (names_index bytes)) ≡ false = ap is_string_table same ∙ other in
      rw (within, kind) refl

  -- it is one
  pub names-there : is_string_table s ≡ true → take s.size (drop s.offset bytes) ≡ section_names bytes
  unfolding section_names
  names-there strings =
      let kind : is_string_table (section bytes (names_index bytes)) ≡ true = ap is_string_table same ∙ strings in
      ap (λ (t : Section). take t.size (drop t.offset bytes)) (sym same) ∙ rw (within, kind) refl

-- what is past the end is the end
pub drop-min : (n : ℕ) (xs : List ℕ) → drop (min n (length xs)) xs ≡ drop n xs
drop-min n xs = elim (cases_lt n (length xs)) [
  | inl below ↦ let e : min n (length xs) ≡ n = omega arith in ap (λ k. drop k xs) e
  | inr past ↦
      let e : min n (length xs) ≡ length xs = omega arith in
      ap (λ k. drop k xs) e ∙ drop_all (length xs) xs (omega arith) ∙ sym (drop_all n xs past)
]

-- all that is left from a place on
pub take-left : (n : ℕ) (xs : List ℕ) → take (length xs - n) (drop n xs) ≡ drop n xs
take-left n xs = take_all (length xs - n) (drop n xs) (omega (arith, length-drop n xs))
