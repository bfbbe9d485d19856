-- What the first halfword of an instruction tells of jump tables (RISC-V Unprivileged ISA 20240411,
-- section 2.5.1 with its table of return-address stack hints, and chapter 26, "C").
use Rattle.std.specs.Prelude.{◌↔◌, ℕ, ◌/◌, ◌%◌, ◌^◌, ◌<◌, ◌≤◌, ◌==◌, ◌&&◌, ◌||◌, Bool, not, false}
use Rattle.std.specs.Prelude.{IsTrue, IfSome, List, Contains, Option, if◌then◌else◌}
use Rattle.std.specs.Option.{option_map_or}
use Rattle.elf_image.specs.Code.{half_at}

-- The registers that hold return addresses: x1 and x5.
abbrev pub is_link_register : ℕ → Bool
is_link_register register = register == 1 || register == 5

-- A C.JR that is not a return: the register in its bits 11 to 7 is not a link register.
abbrev pub is_jump_by_c_jr : ℕ → Bool
is_jump_by_c_jr half =
    half % 2 ^ 7 == 0b10 && half / 2 ^ 12 % 16 == 0b1000
    && not (is_link_register (half / 2 ^ 7 % 32))

-- A JALR, whose opcode is 67, that links to x0, or to x6 as a stub of an indirect function does. It
-- counts whatever its register, which its first halfword does not tell.
abbrev pub is_jump_by_jalr : ℕ → Bool
is_jump_by_jalr half = half % 2 ^ 12 == 0x067 || half % 2 ^ 12 == 0x367

-- The first halfword of a jump through a register that is not a return by C.JR.
abbrev pub is_register_jump : ℕ → Bool
is_register_jump half = if half % 4 == 3 then is_jump_by_jalr half else is_jump_by_c_jr half

-- The same of the halfword at a code address.
abbrev pub is_register_jump_at : List ℕ → ℕ → Bool
is_register_jump_at bytes a = option_map_or is_register_jump (half_at bytes a) false

-- These are the addresses of a file whose first halfword is that of such a jump.
abbrev pub AreRegisterJumps : List ℕ → List ℕ → Type 0
AreRegisterJumps bytes jumps = (a : ℕ) → Contains jumps a ↔ IsTrue (is_register_jump_at bytes a)

-- a lies above `after` and up to `last`, if there are these.
abbrev pub IsBetween : Option ℕ → Option ℕ → ℕ → Type 0
IsBetween after last a = IfSome after (λ b. b < a) × IfSome last (λ b. a ≤ b)

-- These are those of them that lie above `after` and up to `last`.
abbrev pub AreRegisterJumpsBetween : List ℕ → Option ℕ → Option ℕ → List ℕ → Type 0
AreRegisterJumpsBetween bytes after last jumps =
    (a : ℕ) → Contains jumps a ↔ (IsTrue (is_register_jump_at bytes a) × IsBetween after last a)
