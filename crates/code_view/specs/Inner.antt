-- Words that no public clause cites: what `Code` keeps, and what a pass over the sections has found.
use Rattle.std.specs.Prelude.{◌≡◌, ℕ, ◌<◌, IsTrue, IfSome, List, Contains, Some}
use Rattle.elf_image.specs.Sections.{section}
use Rattle.elf_image.specs.Code.{code_section_of}
use Rattle.elf_image.specs.Faults.{IsImage}
use Rattle.code_view.specs.declared.code.Code.TheInside.{Inside}
use Rattle.code_view.specs.Cuts.{cut_of, CutsFit}
use Rattle.code_view.specs.RegisterJump.{is_register_jump_at}
use Rattle.code_view.specs.Tables.{AreAllTables}

-- The file has no fault, the cuts are those of tables of the file, the index is that of the file,
-- and so are what is known of calls and the tables that are known.
pub record IsCodeOf (c : Inside) : Type 0 where
  pub accepted : IsImage c.image.now
  pub cuts : CutsFit c.image.now (cut_of c.cuts.now)
  pub index : c.index.now ≡ c.image.now
  pub calls : c.calls.now ≡ c.image.now
  pub tables : IfSome c.tables (λ tables. AreAllTables c.image.now tables.now)

-- These are addresses, among those that are looked for, whose first halfword is that of a jump
-- through a register, and all of those whose code section is among the first n sections.
pub record AreJumpsOfFirst (bytes : List ℕ) (Among : ℕ → Type 0) (n : ℕ) (jumps : List ℕ)
    : Type 0 where
  pub sound : (a : ℕ) → Contains jumps a → IsTrue (is_register_jump_at bytes a) × Among a
  pub complete : (i a : ℕ) → i < n → code_section_of bytes a ≡ Some (section bytes i)
      → IsTrue (is_register_jump_at bytes a) → Among a → Contains jumps a
