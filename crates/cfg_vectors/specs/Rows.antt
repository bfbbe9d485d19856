-- What the worked rows give of their files. All numbers but those of rows and parts are written in
-- hexadecimal, and in the order in which they lie in memory.
use Rattle.std.specs.Prelude.{◌≡◌, ◌≤◌, ◌==◌, ◌⊎◌, ℕ, zero, suc, ◌+◌, codes, if◌then◌else◌}
use Rattle.std.specs.Prelude.{List, [], ◌∷◌, ◌++◌, replicate}
use Rattle.elf_maker.specs.declared.parts.Parts.{Parts}
use Rattle.elf_maker.specs.declared.parts.MadeSymbol.{MadeSymbol}
use Rattle.elf_maker.specs.Fields.{halves, words}

-- a row that has a file, and one of its parts
pub record IsRow (row part : ℕ) : Type 0 where
  pub listed : (row ≡ 1) ⊎ ((5 ≤ row) × (row ≤ 17)) ⊎ ((28 ≤ row) × (row ≤ 34))
  pub parted : (part ≡ 0) ⊎ (((row ≡ 5) ⊎ (row ≡ 16)) × (part ≤ 3))

-- the entry of a table that has the number n, and `last` if none has
abbrev pub numbered : {X : Type 0} → X → List (ℕ × X) → ℕ → X
numbered last [] n = last
numbered last (e ∷ es) n = if e.0 == n then e.1 else numbered last es n

-- the code of the first parts of row 16: an instruction of 16 bits, the first half of one of 32
-- bits, and `unimp`
abbrev pub row_16_table : List (ℕ × List ℕ)
row_16_table =
    (0, halves (0x0001 ∷ [])) ∷ (1, halves (0x0013 ∷ [])) ∷ (2, words (0xC0001073 ∷ [])) ∷ []

-- the code of its last part, a word of zero bits
abbrev pub row_16_last : List ℕ
row_16_last = words (0x00000000 ∷ [])

-- the code of row 17
abbrev pub row_17_code : List ℕ
row_17_code = words (0x00050463 ∷ 0xFFDFF06F ∷ 0x00008067 ∷ 0xFF5FF06F ∷ [])

-- the code of row 13, which row 29 has too
abbrev pub row_13_code : List ℕ
row_13_code =
    words (0x00700793 ∷ 0x02A7E263 ∷ 0x00020737 ∷ 0x00251513 ∷ 0x00E50533 ∷ 0x00052783
    ∷ 0x00E787B3 ∷ 0x00078067 ∷ 0x00008067 ∷ 0x00008067 ∷ 0x00008067 ∷ 0x00008067 ∷ [])

-- the code of row 31: 300 instructions that go on, and a return
abbrev pub row_31_code : List ℕ
row_31_code = halves (replicate 300 0x0001) ++ halves (0x8082 ∷ [])

-- the code of the other rows
abbrev pub code_table : ℕ → List (ℕ × List ℕ)
code_table part =
    (1, words (0x00008067 ∷ []))
    ∷ (5, words (0x00008067 ∷ 0x00008067 ∷ []))
    ∷ (6, words (0x00000013 ∷ 0xFFF50513 ∷ 0xFE051EE3 ∷ 0x00008067 ∷ []))
    ∷ (7, words (0x00010013 ∷ 0x00008067 ∷ []))
    ∷ (8, words (0x00010013 ∷ 0xFE051FE3 ∷ 0x00008067 ∷ []))
    ∷ (9, words (0x000000EF ∷ 0x00008067 ∷ []))
    ∷ (10, words (0x00050463 ∷ 0x008000EF ∷ 0x00008067 ∷ 0xFF5FF0EF ∷ 0x00008067 ∷ []))
    ∷ (11, words (0x00100097 ∷ 0x000080E7 ∷ 0x00100097 ∷ 0x00008067 ∷ []))
    ∷ (12, words (0x04050063 ∷ 0x0000006F ∷ []))
    ∷ (13, row_13_code)
    ∷ (
      14,
      halves (0x479D ∷ 0xEA63 ∷ 0x00A7 ∷ 0x0737 ∷ 0x0002 ∷ 0x050A ∷ 0x953A ∷ 0x411C ∷ 0x97BA
          ∷ 0x8782 ∷ 0x8082 ∷ 0x8082 ∷ []),
    )
    ∷ (
      15,
      words (0x00300793 ∷ 0x02A7E063 ∷ 0x00020737 ∷ 0x00251513 ∷ 0x00E50533 ∷ 0x00052783
          ∷ 0x00E787B3 ∷ 0x00078067 ∷ 0x00008067 ∷ 0x00008067 ∷ 0x00100793 ∷ 0x02A7E263
          ∷ 0x00020737 ∷ 0x00870713 ∷ 0x00251513 ∷ 0x00E50533 ∷ 0x00052783 ∷ 0x00E787B3
          ∷ 0x00078067 ∷ 0x00008067 ∷ 0x00008067 ∷ 0x00008067 ∷ []),
    )
    ∷ (16, numbered row_16_last row_16_table part)
    ∷ (
      28,
      halves (0x0013 ∷ 0x0013 ∷ 0x0013 ∷ 0x0013 ∷ 0x0013 ∷ 0x0013 ∷ 0x0013 ∷ 0x0013 ∷ 0x0001
          ∷ 0x8082 ∷ []),
    )
    ∷ (29, row_13_code)
    ∷ (30, words (0x008000EF ∷ 0x00008067 ∷ 0x008000EF ∷ 0x00008067 ∷ 0xFF1FF0EF ∷ 0x00008067 ∷ []))
    ∷ (31, row_31_code)
    ∷ (
      32,
      words (0x00020737 ∷ 0x00251513 ∷ 0x00E50533 ∷ 0x00052783 ∷ 0x00E787B3 ∷ 0x00078067
          ∷ 0x00008067 ∷ 0x00008067 ∷ []),
    )
    ∷ (
      33,
      words (0x00100793 ∷ 0x02A7E063 ∷ 0x00020737 ∷ 0x00351513 ∷ 0x00E50533 ∷ 0x00053783
          ∷ 0x00078067 ∷ 0x00008067 ∷ 0x00008067 ∷ 0x00008067 ∷ []),
    )
    ∷ (
      34,
      words (0x00020737 ∷ 0x00251513 ∷ 0x00E50533 ∷ 0x00052783 ∷ 0x00E787B3 ∷ 0x00078067
          ∷ 0x00008067 ∷ 0x00008067 ∷ 0x00020737 ∷ 0x00470713 ∷ 0x00251513 ∷ 0x00E50533
          ∷ 0x00052783 ∷ 0x00E787B3 ∷ 0x00078067 ∷ 0x00008067 ∷ []),
    )
    ∷ []

-- the code of a row
unfoldable pub row_code : ℕ → ℕ → List ℕ
row_code row part = numbered row_17_code (code_table part) row

-- the read-only data of the rows that have some
abbrev pub rodata_table : List (ℕ × List ℕ)
rodata_table = (
  13,
  words (0xFFFF0020 ∷ 0xFFFF0020 ∷ 0xFFFF0020 ∷ 0xFFFF0020 ∷ 0xFFFF0020 ∷ 0xFFFF0020
      ∷ 0xFFFF0020 ∷ 0xFFFF0024 ∷ 0xFFFF002C ∷ []),
)
    ∷ (
      14,
      words (0xFFFF0014 ∷ 0xFFFF0014 ∷ 0xFFFF0014 ∷ 0xFFFF0014 ∷ 0xFFFF0014 ∷ 0xFFFF0014
          ∷ 0xFFFF0014 ∷ 0xFFFF0014 ∷ []),
    )
    ∷ (15, words (0xFFFF0020 ∷ 0xFFFF0020 ∷ 0xFFFF004C ∷ 0xFFFF004C ∷ []))
    ∷ (
      29,
      words (0xFFFF0014 ∷ 0xFFFF001C ∷ 0xFFFF0020 ∷ 0xFFFF0020 ∷ 0xFFFF0020 ∷ 0xFFFF0020
          ∷ 0xFFFF0020 ∷ 0xFFFF0020 ∷ []),
    )
    ∷ (32, words (0xFFFF0018 ∷ 0xFFFF001C ∷ 0x00000000 ∷ []))
    ∷ (33, words (0x0001001C ∷ 0x00000000 ∷ 0x00010020 ∷ 0x00000000 ∷ []))
    ∷ (34, words (0xFFFF0018 ∷ 0xFFFF0038 ∷ 0x00000000 ∷ []))
    ∷ []

unfoldable pub row_rodata : ℕ → List ℕ
row_rodata row = numbered [] rodata_table row

-- the symbols of the first parts of row 5, and of its last
abbrev pub row_5_table : List (ℕ × List MadeSymbol)
row_5_table = (
  0,
  record { name = codes "b"; address = 0x10000 } ∷ record { name = codes "a"; address = 0x10000 }
      ∷ record { name = codes "odd"; address = 0x10001 }
      ∷ record { name = codes "c"; address = 0x10004 } ∷ [],
)
    ∷ (1, record { name = codes "-"; address = 0x10000 } ∷ [])
    ∷ (2, record { name = codes "a b"; address = 0x10000 } ∷ [])
    ∷ []

abbrev pub row_5_last : List MadeSymbol
row_5_last = record { name = codes "a\\b"; address = 0x10000 } ∷ []

-- the symbols of row 31: a function `s` at each of this many halfwords from an address on
abbrev pub each_halfword : ℕ → ℕ → List MadeSymbol
each_halfword address zero = []
each_halfword address (suc n) =
    record { name = codes "s"; address = address } ∷ each_halfword (address + 2) n

-- the symbols of the rows that have some
abbrev pub symbols_table : ℕ → List (ℕ × List MadeSymbol)
symbols_table part =
    (5, numbered row_5_last row_5_table part)
    ∷ (7, record { name = codes "two"; address = 0x10002 } ∷ [])
    ∷ (15, record { name = codes "b"; address = 0x10028 } ∷ [])
    ∷ (17, record { name = codes "g"; address = 0x1000C } ∷ [])
    ∷ (28, record { name = codes "two"; address = 0x10002 } ∷ [])
    ∷ (31, each_halfword 0x10000 301)
    ∷ (34, record { name = codes "b"; address = 0x10020 } ∷ [])
    ∷ []

unfoldable pub row_symbols : ℕ → ℕ → List MadeSymbol
row_symbols row part = numbered [] (symbols_table part) row

-- the parts of a row's file: code and entry at 10000, read-only data at 20000
abbrev pub row_parts : ℕ → ℕ → Parts
row_parts row part = record {
  entry = 0x10000;
  code_at = 0x10000;
  code = row_code row part;
  rodata_at = 0x20000;
  rodata = row_rodata row;
  symbols = row_symbols row part;
}
