-- The text of an architecture and its names, by computation.
use Rattle.byteorder.specs.Endian.{little_bytes}
use Rattle.std.proofs.Common.{◌≡◌, ℕ, ◌+◌, codes, true, List, [], ◌∷◌, ◌++◌, length, refl, Some, None}
use Rattle.elf_image.specs.Number.{u32_at}
use Rattle.elf_image.specs.Attributes.{uleb128, text_in}
use Rattle.elf_image.specs.Architecture.{names, without_version, extensions_named}

-- as gcc writes it
gcc_text : extensions_named (names (codes "rv64i2p1_m2p0_a2p1_f2p2_d2p2_c2p0_zicsr2p0_zba1p0_zbb1p0_v1p0")) ≡ record (extensions_named []) { zba = true; zbb = true; vector = true }
gcc_text = refl

-- `b` stands for three, and RV64GC for none
b_text : extensions_named (names (codes "rv64gc_b1p0")) ≡ record (extensions_named []) { zba = true; zbb = true; zbs = true }
b_text = refl

base_text : (extensions_named (names (codes "rv64gc")) ≡ extensions_named []) × (extensions_named (names (codes "rv64i2p1_m2p0_a2p1_f2p2_d2p2_c2p0_zicsr2p0_zifencei2p0")) ≡ extensions_named [])
base_text = (refl, refl)

-- vectors by any name from `zve` on, and half precision by its own alone
vector_text : (extensions_named (names (codes "rv64i_zve32x1p0")) ≡ record (extensions_named []) { vector = true }) × (extensions_named (names (codes "rv64i_zvfh_zvl128b")) ≡ record (extensions_named []) { zvfh = true })
vector_text = (refl, refl)

-- letters, and one name that goes to the end of its part; upper case counts as lower; an empty part names
-- nothing
parts : (names (codes "rv64gczba_zbb") ≡ codes "g" ∷ codes "c" ∷ codes "zba" ∷ codes "zbb" ∷ []) × (names (codes "rv64gczbazbb") ≡ codes "g" ∷ codes "c" ∷ codes "zbazbb" ∷ []) × (names (codes "RV64I2_m2b1zba1_Zbkc1p0") ≡ codes "i" ∷ codes "m" ∷ codes "b" ∷ codes "zba" ∷ codes "zbkc" ∷ []) × (names (codes "rv64gc__zbs_") ≡ codes "g" ∷ codes "c" ∷ codes "zbs" ∷ []) × (names (codes "rv64imafdcsu_zba") ≡ codes "i" ∷ codes "m" ∷ codes "a" ∷ codes "f" ∷ codes "d" ∷ codes "c" ∷ codes "su" ∷ codes "zba" ∷ [])
parts = (refl, refl, refl, refl, refl)

-- a text without a base, one of another width, and none
no_names : (names (codes "rv64zba") ≡ []) × (names (codes "rv64c_zba") ≡ []) × (names (codes "rv64_i_zba") ≡ []) × (names (codes "rva23u64") ≡ []) × (names (codes "rv32i_zba") ≡ []) × (names (codes "rv64") ≡ []) × (names [] ≡ [])
no_names = (refl, refl, refl, refl, refl, refl, refl)

-- a version is digits, or digits, `p`, digits; after a letter the longest one is passed over
letter_versions : (names (codes "rv64i2p") ≡ codes "i" ∷ codes "p" ∷ []) × (names (codes "rv64i2pb") ≡ codes "i" ∷ codes "p" ∷ codes "b" ∷ []) × (names (codes "rv64i2p1_b2_v") ≡ codes "i" ∷ codes "b" ∷ codes "v" ∷ [])
letter_versions = (refl, refl, refl)

-- and at the end of a name the longest one is left out
versions : (without_version (codes "zba1p0") ≡ codes "zba") × (without_version (codes "zve32x") ≡ codes "zve32x") × (without_version (codes "zvl128b10p12") ≡ codes "zvl128b") × (without_version (codes "zba1") ≡ codes "zba") × (without_version (codes "zbap0") ≡ codes "zbap") × (without_version (codes "zba1p") ≡ codes "zba1p")
versions = (refl, refl, refl, refl, refl, refl)

name_versions : (names (codes "rv64i_zkb1p") ≡ codes "i" ∷ codes "zkb1p" ∷ []) × (names (codes "rv64i_zbs1p0p1") ≡ codes "i" ∷ codes "zbs1p" ∷ []) × (names (codes "rv64i_zvl128b1p0") ≡ codes "i" ∷ codes "zvl128b" ∷ []) × (names (codes "rv64i_z1") ≡ codes "i" ∷ codes "z" ∷ [])
name_versions = (refl, refl, refl, refl)

-- a part with anything else in the place of a letter names nothing
no_letters : (names (codes "rv64gc_b1-zbc_zbs") ≡ codes "g" ∷ codes "c" ∷ codes "zbs" ∷ []) × (names (codes "rv64gc_1b_zbs") ≡ codes "g" ∷ codes "c" ∷ codes "zbs" ∷ []) × (names (codes "rv64gc-_zbs") ≡ codes "zbs" ∷ [])
no_letters = (refl, refl, refl)

-- names that stand for several
several : (extensions_named (names (codes "rv64i_zk")) ≡ record (extensions_named []) { zbkb = true; zbkc = true; zbkx = true; zknd = true; zkne = true; zknh = true }) × (extensions_named (names (codes "rv64i_zkn")) ≡ extensions_named (names (codes "rv64i_zk"))) × (extensions_named (names (codes "rv64i_zks")) ≡ record (extensions_named []) { zbkb = true; zbkc = true; zbkx = true; zksed = true; zksh = true }) × (extensions_named (names (codes "rv64i_zce")) ≡ record (extensions_named []) { zcb = true; zcmp = true; zcmt = true })
several = (refl, refl, refl, refl)

-- floats in integer registers leave no room for others; a vendor by any name from `xthead` on
integers : (extensions_named (names (codes "rv64i_zdinx_zfh_zfa")) ≡ record (extensions_named []) { zfinx = true }) × (extensions_named (names (codes "rv64i_zhinxmin_zhinx")) ≡ record (extensions_named []) { zfinx = true; zhinx = true; zhinxmin = true }) × (extensions_named (names (codes "rv64gc_xtheadba1p0")) ≡ record (extensions_named []) { xthead = true })
integers = (refl, refl, refl)

-- numbers of any length
numbers : (uleb128 (5 ∷ 9 ∷ []) ≡ Some (record { value = 5; size = 1 })) × (uleb128 (0x85 ∷ 0x80 ∷ 0 ∷ []) ≡ Some (record { value = 5; size = 3 })) × (uleb128 (0x85 ∷ 1 ∷ []) ≡ Some (record { value = 133; size = 2 })) × (uleb128 (0x85 ∷ 0x80 ∷ []) ≡ None)
numbers = (refl, refl, refl, refl)

-- attributes, the part and the subsection that they stand in, and the section
text_of : List ℕ → List ℕ
text_of text = 5 ∷ (text ++ 0 ∷ [])

part_with : ℕ → List ℕ → List ℕ
part_with tag attributes = tag ∷ (little_bytes 4 (5 + length attributes) ++ attributes)

vendor_with : List ℕ → List ℕ → List ℕ
vendor_with name parts = little_bytes 4 (5 + length name + length parts) ++ name ++ 0 ∷ parts

made : List ℕ → List ℕ
unfolding part_with vendor_with
made attributes = 0x41 ∷ vendor_with (codes "riscv") (part_with 1 attributes)

-- what is before it is passed over: an alignment of the stack, a part of a section, another vendor
found : (text_in (made (text_of (codes "rv64i"))) ≡ Some (codes "rv64i")) × (text_in (made (4 ∷ 16 ∷ text_of (codes "rv64i"))) ≡ Some (codes "rv64i"))
unfolding u32_at made text_of part_with vendor_with
found = (refl, refl)

passed_over : (text_in (0x41 ∷ vendor_with (codes "riscv") (part_with 2 (0 ∷ []) ++ part_with 1 (text_of (codes "rv64i")))) ≡ Some (codes "rv64i")) × (text_in (0x41 ∷ (vendor_with (codes "gnu") (1 ∷ []) ++ vendor_with (codes "riscv") (part_with 1 (text_of (codes "rv64i"))))) ≡ Some (codes "rv64i"))
unfolding u32_at made text_of part_with vendor_with
passed_over = (refl, refl)

-- the first text counts
first_text : text_in (made (text_of (codes "rv64i") ++ text_of (codes "rv64g"))) ≡ Some (codes "rv64i")
unfolding u32_at made text_of part_with vendor_with
first_text = refl

-- another first byte; no zero byte after the text; sizes that are too small or leave what they lie in
broken : (text_in (0x42 ∷ vendor_with (codes "riscv") (part_with 1 (text_of (codes "rv64i")))) ≡ None) × (text_in (made (5 ∷ codes "rv64i")) ≡ None) × (text_in (0x41 ∷ vendor_with (codes "riscv") (1 ∷ little_bytes 4 4)) ≡ None) × (text_in (0x41 ∷ vendor_with (codes "riscv") (1 ∷ (little_bytes 4 13 ++ text_of (codes "rv64i")))) ≡ None) × (text_in (0x41 ∷ (little_bytes 4 3 ++ codes "riscv")) ≡ None) × (text_in [] ≡ None)
unfolding u32_at made text_of part_with vendor_with
broken = (refl, refl, refl, refl, refl, refl)
