-- Where the bytes of an accepted file that a search finds stand.
use Rattle.std.specs.Prelude.{List, ℕ, ◌+◌, ◌^◌, ◌<◌, ◌≤◌, length}
use Rattle.elf_image.specs.declared.section.Section.{Section}

-- a section of an accepted file that has the n bytes at a, all of them in the file and below the
-- end of memory
pub record IsFoundAt (bytes : List ℕ) (a n : ℕ) (s : Section) : Type 0 where
  pub start : s.address ≤ a
  pub end : a + n ≤ s.address + s.size
  pub in_file : s.offset + s.size ≤ length bytes
  pub in_memory : s.address + s.size < 2 ^ 64
