-- The parts of each row meet the conditions of `make_elf`.
use Rattle.std.proofs.Common.{◌≡◌, ℕ, ◌<◌, ◌≤◌, ◌%◌, Bool, true, ◌&&◌, List, [], ◌∷◌, length, refl, arith, inl, inr, eqb, ltb, leb}
use Rattle.std.specs.List.{flat_map}
use Rattle.std.proofs.lemmas.Bool.{cases_Bool, and_parts, ltb-true, leb-true, eqb-true}
use Rattle.elf_maker.specs.declared.parts.MadeSymbol.{MadeSymbol}
use Rattle.elf_maker.specs.Fields.{halves, words}
use Rattle.elf_maker.specs.Symbols.{terminated_name}
use Rattle.elf_maker.specs.Fit.{have_whole_names}
use Rattle.elf_maker.specs.MadeFile.{made_file}
use Rattle.elf_maker.proofs.Sizes.{made_file_size}
use Rattle.cfg_vectors.specs.Rows.{numbered, row_16_last, row_16_table, row_17_code, code_table, row_code, rodata_table, row_rodata, row_5_last, row_5_table, symbols_table, row_symbols, row_parts}

-- what holds of each entry of a table holds of what is looked up
abbrev AllEntries : {X : Type 0} → (X → Type 0) → List (ℕ × X) → Type 0
AllEntries P [] = Unit {0}
AllEntries P (e ∷ es) = P e.1 × AllEntries P es

numbered-keeps : {X : Type 0} (P : X → Type 0) (last : X) (es : List (ℕ × X)) (n : ℕ) → P last → AllEntries P es → P (numbered last es n)
numbered-keeps P last [] n here all = here
numbered-keeps P last (e ∷ es) n here all = elim (cases_Bool (eqb e.0 n)) [
  | inl same ↦ rw same all.0
  | inr other ↦ rw other (numbered-keeps P last es n here all.1)
]

-- some code, of an even length, and not much
abbrev is_right_code : List ℕ → Bool
is_right_code code = ltb 0 (length code) && eqb (length code % 2) 0 && leb (length code) 700

IsRightCode : List ℕ → Type 0
IsRightCode code = is_right_code code ≡ true

row_16_code-right : (part : ℕ) → IsRightCode (numbered row_16_last row_16_table part)
unfolding IsRightCode halves words
row_16_code-right part = numbered-keeps IsRightCode row_16_last row_16_table part refl (refl, (refl, (refl, tt)))

row_code-right : (row part : ℕ) → IsRightCode (row_code row part)
unfolding IsRightCode halves words row_code
row_code-right row part =
    numbered-keeps IsRightCode row_17_code (code_table part) row refl
    (refl, (refl, (refl, (refl, (refl, (refl, (refl, (refl, (refl, (refl, (refl, (refl, (row_16_code-right part, (refl, (refl, (refl, (refl, (refl, (refl, (refl, tt))))))))))))))))))))

pub code-shape : (row part : ℕ) → (0 < length (row_code row part)) × (length (row_code row part) % 2 ≡ 0) × (length (row_code row part) ≤ 700)
unfolding IsRightCode
code-shape row part =
    let code = row_code row part in
    let all = and_parts (ltb 0 (length code) && eqb (length code % 2) 0) (leb (length code) 700) (row_code-right row part) in
    let first = and_parts (ltb 0 (length code)) (eqb (length code % 2) 0) all.0 in
    (ltb-true 0 (length code) first.0, eqb-true (length code % 2) 0 first.1, leb-true (length code) 700 all.1)

-- little read-only data
IsRightData : List ℕ → Type 0
IsRightData xs = leb (length xs) 36 ≡ true

pub rodata-shape : (row : ℕ) → length (row_rodata row) ≤ 36
unfolding IsRightData words row_rodata
rodata-shape row = leb-true (length (row_rodata row)) 36 (numbered-keeps IsRightData [] rodata_table row refl (refl, (refl, (refl, (refl, (refl, (refl, (refl, tt))))))))

-- not many symbols, with short names
abbrev is_right_symbols : List MadeSymbol → Bool
is_right_symbols ss = have_whole_names ss && leb (length ss) 301 && leb (length (flat_map terminated_name ss)) 602

IsRightSymbols : List MadeSymbol → Type 0
IsRightSymbols ss = is_right_symbols ss ≡ true

row_5_symbols-right : (part : ℕ) → IsRightSymbols (numbered row_5_last row_5_table part)
unfolding IsRightSymbols
row_5_symbols-right part = numbered-keeps IsRightSymbols row_5_last row_5_table part refl (refl, (refl, (refl, tt)))

row_symbols-right : (row part : ℕ) → IsRightSymbols (row_symbols row part)
unfolding IsRightSymbols row_symbols
row_symbols-right row part =
    numbered-keeps IsRightSymbols [] (symbols_table part) row refl (row_5_symbols-right part, (refl, (refl, (refl, (refl, (refl, (refl, tt)))))))

pub symbols-shape : (row part : ℕ) → (have_whole_names (row_symbols row part) ≡ true) × (length (row_symbols row part) ≤ 301) × (length (flat_map terminated_name (row_symbols row part)) ≤ 602)
unfolding IsRightSymbols
symbols-shape row part =
    let ss = row_symbols row part in
    let all = and_parts (have_whole_names ss && leb (length ss) 301) (leb (length (flat_map terminated_name ss)) 602) (row_symbols-right row part) in
    let first = and_parts (have_whole_names ss) (leb (length ss) 301) all.0 in
    (first.0, leb-true (length ss) 301 first.1, leb-true (length (flat_map terminated_name ss)) 602 all.1)

-- the file is small
pub file-shape : (row part : ℕ) → length (made_file (row_parts row part)) ≤ 67108864
file-shape row part =
    let code = code-shape row part in
    let symbols = symbols-shape row part in
    omega (arith, made_file_size (row_parts row part), rodata-shape row)
