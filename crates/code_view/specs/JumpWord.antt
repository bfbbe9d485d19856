-- Words that no public clause cites: instructions of 32 bits that their first halfword tells.
use Rattle.std.specs.Prelude.{ℕ, ◌/◌, ◌%◌, ◌^◌, ◌==◌, ◌&&◌, ◌||◌, not, Bool}

-- The first halfword of a jump, a call or a branch of 32 bits, whatever the other one is. It is
-- that of a JAL, of a JALR, or of a branch, whose funct3 is neither 2 nor 3 (RISC-V Unprivileged
-- ISA 20240411, section 2.5).
abbrev pub is_jump_word : ℕ → Bool
is_jump_word half =
    half % 2 ^ 7 == 0x6F || (half % 2 ^ 7 == 0x67 && half / 2 ^ 12 % 8 == 0)
    || (half % 2 ^ 7 == 0x63 && not (half / 2 ^ 13 % 4 == 1))
