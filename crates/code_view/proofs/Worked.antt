-- Which instructions their first halfword tells for jumps that may have a table, by computation: each
-- as the GNU assembler encodes it.
use Rattle.std.proofs.Common.{◌≡◌, ℕ, true, false, List, [], ◌∷◌, map, refl}
use Rattle.code_view.specs.RegisterJump.{is_register_jump}

-- c.jr through sp, t1, s1, a0, a5 and t6; the same first halfword of jr a5 and of jr ra, a return, where
-- these have 32 bits; and jalr t1, t3, of a stub
abbrev told : List ℕ
told = 0x8102 ∷ 0x8302 ∷ 0x8482 ∷ 0x8502 ∷ 0x8782 ∷ 0x8f82 ∷ 0x8067 ∷ 0x0367 ∷ []

told_rows : map is_register_jump told ≡ map (λ half. true) told
told_rows = refl

-- c.jr ra and c.jr t0, which are returns; c.jalr ra, c.jalr a5, c.mv ra, a5 and, of 32 bits,
-- jalr ra, 0(a5)
abbrev others : List ℕ
others = 0x8082 ∷ 0x8282 ∷ 0x9082 ∷ 0x9782 ∷ 0x80be ∷ 0x80e7 ∷ []

other_rows : map is_register_jump others ≡ map (λ half. false) others
other_rows = refl
