-- How many bytes the read-only data has, table by table.
use Rattle.std.proofs.Common.{◌≡◌, ℕ, zero, suc, ◌+◌, ◌*◌, ◌/◌, [], ◌∷◌, ◌++◌, length, map, refl, ap, ◌∙◌, arith}
use Rattle.std.specs.List.{flat_map, range_with_len}
use Rattle.std.proofs.lemmas.List.{append-nil, length-append}
use Rattle.std.proofs.lemmas.List.Concat.{flat_map-append}
use Rattle.std.proofs.lemmas.List.FromFn.{map-range_with_len_more}
use Rattle.elf_maker.specs.Fields.{words}
use Rattle.big_case.proofs.Slots.{length-words}
use Rattle.big_case.specs.Tables.{table, rodata_bytes}

-- the tables from a on have 16 bytes each
length-tables : (a count : ℕ) → length (flat_map words (map table (range_with_len a count))) ≡ 16 * count
length-tables a zero = refl
length-tables a (suc count) =
    length-append (words (table a)) (flat_map words (map table (range_with_len (a + 1) count)))
    ∙ omega (arith, length-words (table a), length-tables (a + 1) count)

-- the read-only data has 16 bytes for each table
pub length-rodata_bytes : (n : ℕ) → length (rodata_bytes n) ≡ 16 * (n / 4)
unfolding rodata_bytes
length-rodata_bytes n = length-tables 0 (n / 4)

-- one table more
pub table_more : (j : ℕ) → flat_map words (map table (range_with_len 0 (j + 1))) ≡ flat_map words (map table (range_with_len 0 j)) ++ words (table j)
table_more j =
    ap (flat_map words) (map-range_with_len_more table 0 j j (omega arith))
    ∙ flat_map-append words (map table (range_with_len 0 j)) (table j ∷ [])
    ∙ rw append-nil refl
