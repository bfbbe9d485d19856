-- The parts of the file meet the conditions of `make_elf`, and what follows of the file.
use Rattle.std.proofs.Common.{◌≡◌, ◌↔◌, ℕ, ◌<◌, ◌≤◌, List, length, arith, inl, inr}
use Rattle.std.specs.List.{Contains}
use Rattle.elf_image.specs.Seeds.{seeds}
use Rattle.elf_maker.specs.Fit.{AreDisjoint}
use Rattle.elf_maker.specs.MadeFile.{made_file}
use Rattle.elf_maker.specs.MadeOf.{IsMadeOf}
use Rattle.elf_maker.proofs.Sizes.{made_file_size}
use Rattle.big_case.specs.BigCase.{big_parts}
use Rattle.big_case.specs.Places.{slot_at, table_at}
use Rattle.big_case.specs.Slots.{code_bytes}
use Rattle.big_case.specs.Tables.{rodata_bytes}
use Rattle.big_case.proofs.Slots.{length-code_bytes}
use Rattle.big_case.proofs.Tables.{length-rodata_bytes}

-- the code ends in front of the read-only data
pub apart : (n : ℕ) → n ≤ 100000 → AreDisjoint (slot_at 0) (length (code_bytes n)) (table_at 0) (length (rodata_bytes n))
apart n most = omega (arith, length-code_bytes n, length-rodata_bytes n)

-- the file is within the limit
pub small : (n : ℕ) → n ≤ 100000 → length (made_file (big_parts n)) ≤ 67108864
small n most = omega (arith, made_file_size (big_parts n), length-code_bytes n, length-rodata_bytes n)

-- without symbols the entry is the one seed
pub one_seed : (n : ℕ) (bytes : List ℕ) → IsMadeOf (big_parts n) bytes → (a : ℕ) → Contains (seeds bytes) a ↔ (a ≡ slot_at 0)
one_seed n bytes made a = (λ h. elim ((made.seeds a).0 h) [ inl is ↦ is | inr given ↦ let none : given.1.0 < 0 = given.1.2 in absurd (omega arith) ], λ is. (made.seeds a).1 (inl is))
