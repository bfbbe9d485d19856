-- How many bytes loads and stores move, and what a load leaves in its register (RISC-V Unprivileged
-- ISA 20240411, sections 2.6 and 4.3).
use Rattle.std.specs.Prelude.{ℕ}
use Rattle.std.specs.Int.{w8, w16, w32}
use Rattle.rv_decode.specs.declared.instructions.LoadKind.{LoadKind}
use Rattle.rv_decode.specs.declared.instructions.LoadKind.TheVariants as loads
use Rattle.rv_decode.specs.declared.instructions.StoreKind.{StoreKind}
use Rattle.rv_decode.specs.declared.instructions.StoreKind.TheVariants as stores
use Rattle.rv_operations.specs.Arithmetic.{sign_extended}

abbrev pub load_size : LoadKind → ℕ
load_size loads.Lb = 1
load_size loads.Lbu = 1
load_size loads.Lh = 2
load_size loads.Lhu = 2
load_size loads.Lw = 4
load_size loads.Lwu = 4
load_size loads.Ld = 8

abbrev pub store_size : StoreKind → ℕ
store_size stores.Sb = 1
store_size stores.Sh = 2
store_size stores.Sw = 4
store_size stores.Sd = 8

-- the number in the bytes that were read, sign-extended or not
unfoldable pub load_result : LoadKind → ℕ → ℕ
load_result loads.Lb x = sign_extended w8 x  -- 2.6
load_result loads.Lbu x = x  -- 2.6
load_result loads.Lh x = sign_extended w16 x  -- 2.6
load_result loads.Lhu x = x  -- 2.6
load_result loads.Lw x = sign_extended w32 x  -- 4.3
load_result loads.Lwu x = x  -- 4.3
load_result loads.Ld x = x  -- 4.3
