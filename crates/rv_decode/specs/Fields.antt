-- The fields and the immediates of a 32-bit instruction word (RISC-V Unprivileged ISA 20240411,
-- sections 2.2 and 2.3). A word is a natural number, and its bits are numbered from 0, the lowest.
use Rattle.std.specs.Prelude.{ℕ, ◌+◌, ◌-◌, ◌*◌, ◌/◌, ◌%◌, ◌^◌, Bool, ◌==◌, nat_lt, if◌then◌else◌, ℤ}
use Rattle.std.specs.Prelude.{pos, ◌-ℤ◌}

-- bits `high` to `low` of a word, both included, as a number
abbrev pub field : ℕ → ℕ → ℕ → ℕ
field w high low = w / 2 ^ low % 2 ^ (high + 1 - low)

-- the fields of the base formats (section 2.2)
abbrev pub opcode : ℕ → ℕ
opcode w = field w 6 0

abbrev pub rd : ℕ → ℕ
rd w = field w 11 7

abbrev pub funct3 : ℕ → ℕ
funct3 w = field w 14 12

abbrev pub rs1 : ℕ → ℕ
rs1 w = field w 19 15

abbrev pub rs2 : ℕ → ℕ
rs2 w = field w 24 20

abbrev pub funct7 : ℕ → ℕ
funct7 w = field w 31 25

-- the six bits above the amount of a 64-bit shift (section 4.2.1)
abbrev pub funct6 : ℕ → ℕ
funct6 w = field w 31 26

-- the operation of an atomic instruction, and its ordering bits aq and rl (section 14.1)
abbrev pub funct5 : ℕ → ℕ
funct5 w = field w 31 27

abbrev pub acquire : ℕ → Bool
acquire w = field w 26 26 == 1

abbrev pub release : ℕ → Bool
release w = field w 25 25 == 1

-- the number of a control and status register (section 7.1), and in its place the function of an
-- ECALL or EBREAK (section 2.8)
abbrev pub csr : ℕ → ℕ
csr w = field w 31 20

-- the amount of a shift of 64 bits (section 4.2.1), and of one of 32 bits
abbrev pub shift_amount : ℕ → ℤ
shift_amount w = pos (field w 25 20)

abbrev pub word_shift_amount : ℕ → ℤ
word_shift_amount w = pos (field w 24 20)

-- what the low `count` bits n are in two's complement
abbrev pub sign_extended : ℕ → ℕ → ℤ
sign_extended count n = if nat_lt n (2 ^ (count - 1)) then pos n else pos n -ℤ pos (2 ^ count)

-- I-immediate (section 2.3): bits 31 to 20
abbrev pub i_immediate : ℕ → ℤ
i_immediate w = sign_extended 12 (field w 31 20)

-- S-immediate (section 2.3): bits 31 to 25, then bits 11 to 7
abbrev pub s_immediate : ℕ → ℤ
s_immediate w = sign_extended 12 (field w 31 25 * 2 ^ 5 + field w 11 7)

-- B-immediate (section 2.3): bits 12 and 11 are the word's bits 31 and 7. Bits 10 to 5 are its bits
-- 30 to 25, bits 4 to 1 its bits 11 to 8, and bit 0 is 0
abbrev pub b_offset : ℕ → ℤ
b_offset w =
    sign_extended 13
    (field w 31 31 * 2 ^ 12 + field w 7 7 * 2 ^ 11 + field w 30 25 * 2 ^ 5 + field w 11 8 * 2)

-- J-immediate (section 2.3): bits 20 and 11 are the word's bits 31 and 20. Bits 19 to 12 are its
-- bits 19 to 12, bits 10 to 1 its bits 30 to 21, and bit 0 is 0
abbrev pub j_offset : ℕ → ℤ
j_offset w =
    sign_extended 21
    (field w 31 31 * 2 ^ 20 + field w 19 12 * 2 ^ 12 + field w 20 20 * 2 ^ 11 + field w 30 21 * 2)

-- U-immediate (section 2.3): bits 31 to 12 in place, and its bits 11 to 0 are 0
abbrev pub u_immediate : ℕ → ℤ
u_immediate w = sign_extended 32 (field w 31 12 * 2 ^ 12)
