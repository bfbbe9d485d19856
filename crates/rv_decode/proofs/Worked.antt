-- The table at worked words, each by computation.
use Rattle.std.proofs.Common.{◌≡◌, Some, None, true, false, pos, negsuc, refl}
use Rattle.rv_decode.specs.Table.{rows, upper_rows, jump_rows, branch_rows, load_rows, store_rows, imm_rows, imm_w_rows, reg_rows, reg_w_rows, atomic_rows_of, atomic_rows, fence_rows, system_rows, instruction}
use Rattle.rv_decode.specs.declared.instructions.Insn.TheVariants.{Jal, Jalr, Branch, Load, Store, Imm, Reg, Atomic, Ebreak, Csr}
use Rattle.rv_decode.specs.declared.instructions.BranchKind.TheVariants.{Beq, Bne, Bltu}
use Rattle.rv_decode.specs.declared.instructions.LoadKind.TheVariants.{Lw}
use Rattle.rv_decode.specs.declared.instructions.StoreKind.TheVariants.{Sd}
use Rattle.rv_decode.specs.declared.instructions.ImmKind.TheVariants.{Addi, Slli, Srai}
use Rattle.rv_decode.specs.declared.instructions.RegKind.TheVariants.{Add}
use Rattle.rv_decode.specs.declared.instructions.AtomicKind.TheVariants.{Lr}
use Rattle.rv_decode.specs.declared.instructions.CsrKind.TheVariants.{Csrrw}

-- addi x0, x0, 0
pub nop : instruction 0x00000013 ≡ Some (Imm Addi 0 0 (pos 0))
unfolding instruction rows upper_rows jump_rows branch_rows load_rows store_rows imm_rows imm_w_rows reg_rows reg_w_rows atomic_rows_of atomic_rows fence_rows system_rows
nop = refl

-- addi x15, x0, 7
pub addi_seven : instruction 0x00700793 ≡ Some (Imm Addi 15 0 (pos 7))
unfolding instruction rows upper_rows jump_rows branch_rows load_rows store_rows imm_rows imm_w_rows reg_rows reg_w_rows atomic_rows_of atomic_rows fence_rows system_rows
addi_seven = refl

-- addi x10, x10, -1
pub addi_minus_one : instruction 0xFFF50513 ≡ Some (Imm Addi 10 10 (negsuc 0))
unfolding instruction rows upper_rows jump_rows branch_rows load_rows store_rows imm_rows imm_w_rows reg_rows reg_w_rows atomic_rows_of atomic_rows fence_rows system_rows
addi_minus_one = refl

-- slli x10, x10, 2
pub slli_two : instruction 0x00251513 ≡ Some (Imm Slli 10 10 (pos 2))
unfolding instruction rows upper_rows jump_rows branch_rows load_rows store_rows imm_rows imm_w_rows reg_rows reg_w_rows atomic_rows_of atomic_rows fence_rows system_rows
slli_two = refl

-- srai x10, x11, 63
pub srai_sixty_three : instruction 0x43F5D513 ≡ Some (Imm Srai 10 11 (pos 63))
unfolding instruction rows upper_rows jump_rows branch_rows load_rows store_rows imm_rows imm_w_rows reg_rows reg_w_rows atomic_rows_of atomic_rows fence_rows system_rows
srai_sixty_three = refl

-- add x10, x10, x14
add_x10 : instruction 0x00E50533 ≡ Some (Reg Add 10 10 14)
unfolding instruction rows upper_rows jump_rows branch_rows load_rows store_rows imm_rows imm_w_rows reg_rows reg_w_rows atomic_rows_of atomic_rows fence_rows system_rows
add_x10 = refl

-- lw x10, 0(x10)
lw_x10 : instruction 0x00052503 ≡ Some (Load Lw 10 10 (pos 0))
unfolding instruction rows upper_rows jump_rows branch_rows load_rows store_rows imm_rows imm_w_rows reg_rows reg_w_rows atomic_rows_of atomic_rows fence_rows system_rows
lw_x10 = refl

-- sd x1, -8(x2)
pub sd_minus_eight : instruction 0xFE113C23 ≡ Some (Store Sd 2 1 (negsuc 7))
unfolding instruction rows upper_rows jump_rows branch_rows load_rows store_rows imm_rows imm_w_rows reg_rows reg_w_rows atomic_rows_of atomic_rows fence_rows system_rows
sd_minus_eight = refl

-- bne x10, x0, -4
pub bne_back_four : instruction 0xFE051EE3 ≡ Some (Branch Bne 10 0 (negsuc 3))
unfolding instruction rows upper_rows jump_rows branch_rows load_rows store_rows imm_rows imm_w_rows reg_rows reg_w_rows atomic_rows_of atomic_rows fence_rows system_rows
bne_back_four = refl

-- bne x10, x0, -2
pub bne_back_two : instruction 0xFE051FE3 ≡ Some (Branch Bne 10 0 (negsuc 1))
unfolding instruction rows upper_rows jump_rows branch_rows load_rows store_rows imm_rows imm_w_rows reg_rows reg_w_rows atomic_rows_of atomic_rows fence_rows system_rows
bne_back_two = refl

-- beq x10, x0, +8
pub beq_eight : instruction 0x00050463 ≡ Some (Branch Beq 10 0 (pos 8))
unfolding instruction rows upper_rows jump_rows branch_rows load_rows store_rows imm_rows imm_w_rows reg_rows reg_w_rows atomic_rows_of atomic_rows fence_rows system_rows
beq_eight = refl

-- bltu x15, x10, +36
pub bltu_thirty_six : instruction 0x02A7E263 ≡ Some (Branch Bltu 15 10 (pos 36))
unfolding instruction rows upper_rows jump_rows branch_rows load_rows store_rows imm_rows imm_w_rows reg_rows reg_w_rows atomic_rows_of atomic_rows fence_rows system_rows
bltu_thirty_six = refl

-- jal x1, +8
pub jal_eight : instruction 0x008000EF ≡ Some (Jal 1 (pos 8))
unfolding instruction rows upper_rows jump_rows branch_rows load_rows store_rows imm_rows imm_w_rows reg_rows reg_w_rows atomic_rows_of atomic_rows fence_rows system_rows
jal_eight = refl

-- jal x1, -12
pub jal_back_twelve : instruction 0xFF5FF0EF ≡ Some (Jal 1 (negsuc 11))
unfolding instruction rows upper_rows jump_rows branch_rows load_rows store_rows imm_rows imm_w_rows reg_rows reg_w_rows atomic_rows_of atomic_rows fence_rows system_rows
jal_back_twelve = refl

-- jal x0, -4
pub jal_back_four : instruction 0xFFDFF06F ≡ Some (Jal 0 (negsuc 3))
unfolding instruction rows upper_rows jump_rows branch_rows load_rows store_rows imm_rows imm_w_rows reg_rows reg_w_rows atomic_rows_of atomic_rows fence_rows system_rows
jal_back_four = refl

-- jalr x0, 0(x1)
pub return_is : instruction 0x00008067 ≡ Some (Jalr 0 1 (pos 0))
unfolding instruction rows upper_rows jump_rows branch_rows load_rows store_rows imm_rows imm_w_rows reg_rows reg_w_rows atomic_rows_of atomic_rows fence_rows system_rows
return_is = refl

-- lr.d.aq x10, (x11)
pub lr_aq : instruction 0x1405B52F ≡ Some (Atomic Lr true true false 10 11 0)
unfolding instruction rows upper_rows jump_rows branch_rows load_rows store_rows imm_rows imm_w_rows reg_rows reg_w_rows atomic_rows_of atomic_rows fence_rows system_rows
lr_aq = refl

-- csrrw x0, cycle, x0
pub unimp_is : instruction 0xC0001073 ≡ Some (Csr Csrrw 0 0 3072)
unfolding instruction rows upper_rows jump_rows branch_rows load_rows store_rows imm_rows imm_w_rows reg_rows reg_w_rows atomic_rows_of atomic_rows fence_rows system_rows
unimp_is = refl

-- ebreak
pub ebreak_is : instruction 0x00100073 ≡ Some Ebreak
unfolding instruction rows upper_rows jump_rows branch_rows load_rows store_rows imm_rows imm_w_rows reg_rows reg_w_rows atomic_rows_of atomic_rows fence_rows system_rows
ebreak_is = refl

-- mret
pub mret_is_none : instruction 0x30200073 ≡ None
unfolding instruction rows upper_rows jump_rows branch_rows load_rows store_rows imm_rows imm_w_rows reg_rows reg_w_rows atomic_rows_of atomic_rows fence_rows system_rows
mret_is_none = refl

-- wfi
pub wfi_is_none : instruction 0x10500073 ≡ None
unfolding instruction rows upper_rows jump_rows branch_rows load_rows store_rows imm_rows imm_w_rows reg_rows reg_w_rows atomic_rows_of atomic_rows fence_rows system_rows
wfi_is_none = refl

-- LOAD with funct3 = 7
pub load_seven_is_none : instruction 0x00007003 ≡ None
unfolding instruction rows upper_rows jump_rows branch_rows load_rows store_rows imm_rows imm_w_rows reg_rows reg_w_rows atomic_rows_of atomic_rows fence_rows system_rows
load_seven_is_none = refl

-- BRANCH with funct3 = 2
pub branch_two_is_none : instruction 0x00002063 ≡ None
unfolding instruction rows upper_rows jump_rows branch_rows load_rows store_rows imm_rows imm_w_rows reg_rows reg_w_rows atomic_rows_of atomic_rows fence_rows system_rows
branch_two_is_none = refl

-- no opcode
pub zero_is_none : instruction 0x00000000 ≡ None
unfolding instruction rows upper_rows jump_rows branch_rows load_rows store_rows imm_rows imm_w_rows reg_rows reg_w_rows atomic_rows_of atomic_rows fence_rows system_rows
zero_is_none = refl
