-- The table on worked halfwords, a pair or two a form, each as the GNU assembler encodes the compressed
-- instruction and the one that it stands for.
use Rattle.std.proofs.Common.{◌≡◌, ℕ, List, [], ◌∷◌, map, Some, None, refl}
use Rattle.rvc_expand.specs.Formats.{r_type, i_type, s_type, b_type, u_type, j_type}
use Rattle.rvc_expand.specs.Halfword.{shift_amount, small_immediate, lui_immediate, addi16sp_immediate, addi4spn_immediate, word_offset, double_offset, lwsp_offset, ldsp_offset, swsp_offset, sdsp_offset, jump_offset, branch_offset}
use Rattle.rvc_expand.specs.Table.{quadrant_0, quadrant_1, quadrant_2, forms, expansion}

abbrev expanded : List (ℕ × ℕ)
expanded =
    -- c.addi4spn a3, sp, 724
    (0x0dd4, 0x2d410693)
    -- c.lw a4, 92(s1)
    ∷ (0x4cf8, 0x05c4a703)
    -- c.ld a5, 168(s0)
    ∷ (0x745c, 0x0a843783)
    -- c.sw s1, 68(a0)
    ∷ (0xc164, 0x04952223)
    -- c.sd a2, 200(a1)
    ∷ (0xe5f0, 0x0cc5b423)
    -- c.nop
    ∷ (0x0001, 0x00000013)
    -- c.addi t0, -23
    ∷ (0x12a5, 0xfe928293)
    -- c.addiw a6, 19
    ∷ (0x284d, 0x0138081b)
    -- c.li s11, -32
    ∷ (0x5d81, 0xfe000d93)
    -- c.addi16sp sp, -336
    ∷ (0x714d, 0xeb010113)
    -- c.addi16sp sp, 176
    ∷ (0x614d, 0x0b010113)
    -- c.lui t6, 0xfffed
    ∷ (0x7fb5, 0xfffedfb7)
    -- c.lui ra, 0x15
    ∷ (0x60d5, 0x000150b7)
    -- c.srli a0, 41
    ∷ (0x9125, 0x02955513)
    -- c.srai s0, 50
    ∷ (0x9449, 0x43245413)
    -- c.andi a4, -14
    ∷ (0x9b49, 0xff277713)
    -- c.sub s1, a5
    ∷ (0x8c9d, 0x40f484b3)
    -- c.xor a0, s0
    ∷ (0x8d21, 0x00854533)
    -- c.or a1, a3
    ∷ (0x8dd5, 0x00d5e5b3)
    -- c.and a2, a4
    ∷ (0x8e79, 0x00e67633)
    -- c.subw a5, s1
    ∷ (0x9f85, 0x409787bb)
    -- c.addw s0, a2
    ∷ (0x9c31, 0x00c4043b)
    -- c.j .-1370
    ∷ (0xb45d, 0xaa7ff06f)
    -- c.j .+1194
    ∷ (0xa16d, 0x4aa0006f)
    -- c.beqz a3, .-86
    ∷ (0xd6cd, 0xfa0685e3)
    -- c.bnez s1, .+170
    ∷ (0xe4cd, 0x0a049563)
    -- c.slli t4, 37
    ∷ (0x1e96, 0x025e9e93)
    -- c.lwsp s10, 212(sp)
    ∷ (0x4d5e, 0x0d412d03)
    -- c.ldsp gp, 360(sp)
    ∷ (0x71b6, 0x16813183)
    -- c.jr t1
    ∷ (0x8302, 0x00030067)
    -- c.mv s5, a7
    ∷ (0x8ac6, 0x01100ab3)
    -- c.ebreak
    ∷ (0x9002, 0x00100073)
    -- c.jalr s2
    ∷ (0x9902, 0x000900e7)
    -- c.add t3, s9
    ∷ (0x9e66, 0x019e0e33)
    -- c.swsp s7, 156(sp)
    ∷ (0xcf5e, 0x09712e23)
    -- c.sdsp s8, 424(sp)
    ∷ (0xf762, 0x1b813423)
    ∷ []

expanded_rows : map (λ pair. expansion pair.0) expanded ≡ map (λ pair. Some pair.1) expanded
unfolding expansion forms quadrant_0 quadrant_1 quadrant_2 r_type i_type s_type b_type u_type j_type shift_amount small_immediate lui_immediate addi16sp_immediate addi4spn_immediate word_offset double_offset lwsp_offset ldsp_offset swsp_offset sdsp_offset jump_offset branch_offset
expanded_rows = refl

-- the defined illegal instruction, C.ADDI4SPN and C.LUI with immediate 0, C.ADDI16SP with immediate 0,
-- C.ADDIW, C.LWSP, C.LDSP and C.JR with register 0, the reserved places of quadrants 0 and 1, the
-- floating-point forms, and quadrant 3
abbrev refused : List ℕ
refused =
    0x0000 ∷ 0x0004 ∷ 0x6001 ∷ 0x6f81 ∷ 0x6101 ∷ 0x2001 ∷ 0x307d ∷ 0x4002 ∷ 0x507e ∷ 0x6002 ∷ 0x707e
    ∷ 0x8002 ∷ 0x8000 ∷ 0x9ffc ∷ 0x9c41 ∷ 0x9c61 ∷ 0x9ffd ∷ 0x2000 ∷ 0xa000 ∷ 0x2002 ∷ 0xa002 ∷ 0x0003
    ∷ 0x0013 ∷ 0xffff ∷ []

refused_rows : map expansion refused ≡ map (λ half. None) refused
unfolding expansion forms quadrant_0 quadrant_1 quadrant_2 r_type i_type s_type b_type u_type j_type shift_amount small_immediate lui_immediate addi16sp_immediate addi4spn_immediate word_offset double_offset lwsp_offset ldsp_offset swsp_offset sdsp_offset jump_offset branch_offset
refused_rows = refl
