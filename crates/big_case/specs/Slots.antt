-- The code of a large program of n functions: this project's profile. Slots 0 to n - 1 are the
-- functions, as a binary tree: function i calls functions 2 i + 1 and 2 i + 2. Slot n returns and
-- slot n + 1 loops without end.
use Rattle.std.specs.Prelude.{ℕ, ◌+◌, ◌-◌, ◌*◌, ◌/◌, ◌%◌, ◌==◌, List, [], ◌∷◌, ◌++◌, length, map}
use Rattle.std.specs.Prelude.{replicate, if◌then◌else◌}
use Rattle.std.specs.List.{flat_map, range_with_len}
use Rattle.elf_maker.specs.Fields.{words}
use Rattle.big_case.specs.Pair.{pair}
use Rattle.big_case.specs.Places.{slot_at, table_at, callee}

-- auipc x1 and jalr x1, x1, which stand at `at` and call slot t
abbrev pub call : ℕ → ℕ → List ℕ
call at t = pair 0x00000097 0x000080E7 (slot_at t - at)

-- auipc x14 and addi x14, x14, which stand at `at` and give x14 the address of table j
abbrev pub table_address : ℕ → ℕ → List ℕ
table_address at j = pair 0x00000717 0x00070713 (table_at j - at)

-- addi x10, x10, -1; bne x10, x0, -4; ret
abbrev pub counting_body : List ℕ
counting_body = 0xFFF50513 ∷ 0xFE051EE3 ∷ 0x00008067 ∷ []

-- addi x10, x10, -1; addi x11, x11, 1; bne x10, x0, -4; ret
abbrev pub adding_body : List ℕ
adding_body = 0xFFF50513 ∷ 0x00158593 ∷ 0xFE051EE3 ∷ 0x00008067 ∷ []

-- beq x10, x0, +12; a call of the slot that loops, from offset 20 of slot i; ret
abbrev pub branching_body : ℕ → ℕ → List ℕ
branching_body n i = (0x00050663 ∷ []) ++ call (slot_at i + 20) (n + 1) ++ 0x00008067 ∷ []

-- addi x15, x0, 4; bltu x15, x10, +44; the address of table j, from offset 24 of slot i;
-- slli x10, x10, 2; add x10, x10, x14; lw x15, 0(x10); add x15, x15, x14; jalr x0, 0(x15);
-- ret; ret; addi x10, x0, 1; ret
abbrev pub jumping_body : ℕ → ℕ → List ℕ
jumping_body i j =
    (0x00400793 ∷ 0x02A7E663 ∷ [])
    ++ table_address (slot_at i + 24) j
    ++ (0x00251513 ∷ 0x00E50533 ∷ 0x00052783 ∷ 0x00E787B3 ∷ 0x00078067 ∷ [])
    ++ (0x00008067 ∷ 0x00008067 ∷ 0x00100513 ∷ 0x00008067 ∷ [])

-- what function i has after its two calls, from offset 16 on
abbrev pub body : ℕ → ℕ → List ℕ
body n i =
    if i % 4 == 0 then counting_body
    else (if i % 4 == 1 then adding_body
    else (if i % 4 == 2 then branching_body n i
    else jumping_body i (i / 4)))

-- function i: two calls and its body
unfoldable pub function : ℕ → ℕ → List ℕ
function n i =
    call (slot_at i) (callee n (2 * i + 1))
    ++ call (slot_at i + 8) (callee n (2 * i + 2))
    ++ body n i

-- all slots: the functions; ret; jal x0, 0
unfoldable pub slots : ℕ → List (List ℕ)
slots n = map (function n) (range_with_len 0 n) ++ (0x00008067 ∷ []) ∷ (0x0000006F ∷ []) ∷ []

-- the 128 bytes of a slot: its words, and zero bytes
unfoldable pub slot_bytes : List ℕ → List ℕ
slot_bytes slot = words slot ++ replicate (128 - length (words slot)) 0

-- the bytes of all slots
unfoldable pub code_bytes : ℕ → List ℕ
code_bytes n = flat_map slot_bytes (slots n)
