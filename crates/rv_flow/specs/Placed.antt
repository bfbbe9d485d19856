-- The instruction at a code address (RISC-V Unprivileged ISA 20240411, section 1.5, "Base
-- Instruction-Length Encoding", and chapter 26, "C").
use Rattle.std.specs.Prelude.{ℕ, ◌/◌, ◌%◌, ◌==◌, List, Option, Some, None, if◌then◌else◌}
use Rattle.std.specs.Option.{option_map_or, option_and_then, option_or}
use Rattle.elf_image.specs.declared.extensions.Extensions.{Extensions}
use Rattle.elf_image.specs.Architecture.{extensions_of}
use Rattle.elf_image.specs.Code.{half_at, word_at}
use Rattle.rv_decode.specs.declared.instructions.Insn.{Insn}
use Rattle.rv_decode.specs.Table.{instruction}
use Rattle.rvc_expand.specs.Table.{expansion}
use Rattle.rv_float.specs.Table.{float_instruction}
use Rattle.rv_float.specs.Forms.{float_expansion}
use Rattle.rv_extensions.specs.IntegerFloats.{named_instruction}
use Rattle.rv_extensions.specs.Forms.{extension_form, takes_doubles}
use Rattle.rv_flow.specs.declared.placed.Placed.{Placed}

-- What is no instruction has the length 2.
abbrev pub bad : Placed
bad = record { length = 2; insn = None }

-- What the extensions that are named leave of F and D: nothing of their words, if floats stand in
-- integer registers.
abbrev pub float_insn : Extensions → ℕ → Option Insn
float_insn e word = if e.zfinx then None else float_instruction word

-- And none of the four compressed forms, if they are something else or have no registers.
abbrev pub float_form : Extensions → ℕ → Option ℕ
float_form e half = if takes_doubles e then None else float_expansion half

-- The instruction of RV64GC that a word is, by the base table or the float table, as far as the
-- extensions that are named leave it.
abbrev pub rv64gc_insn : Extensions → ℕ → Option Insn
rv64gc_insn e word = option_or (instruction word) (float_insn e word)

-- The instruction that a word is by the extensions that are named: one of RV64GC, or else one of
-- these. At most one table has it.
abbrev pub word_insn : Extensions → ℕ → Option Insn
word_insn e word = option_or (rv64gc_insn e word) (named_instruction e word)

-- The word that a halfword stands for in RV64GC, by either table of compressed forms.
abbrev pub expanded : Extensions → ℕ → Option ℕ
expanded e half = option_or (expansion half) (float_form e half)

-- A 16-bit form of RV64GC stands for the 32-bit instruction that it expands to. Any other halfword is
-- what the extensions that are named make of it.
abbrev pub compressed_insn : Extensions → ℕ → Option Insn
compressed_insn e half = option_map_or (rv64gc_insn e) (expanded e half) (extension_form e half)

-- A 32-bit form is an instruction if all its four bytes are there and a row of a table holds.
abbrev pub whole_insn : Extensions → Option ℕ → Option Insn
whole_insn e word = option_and_then (word_insn e) word

abbrev pub whole : Option Insn → Placed
whole None = bad
whole (Some insn) = record { length = 4; insn = Some insn }

-- The lowest two bits of the first halfword tell a 16-bit form, if they are not 11; bits 4 to 2
-- tell a form longer than 32 bits, if they are 111.
abbrev pub placed_by : Extensions → List ℕ → ℕ → ℕ → Placed
placed_by e bytes a half =
    if half % 4 == 3
    then (if half / 4 % 8 == 7 then bad else whole (whole_insn e (word_at bytes a)))
    else record { length = 2; insn = compressed_insn e half }

-- The instruction at a code address, by the extensions that the file names.
abbrev pub placed_at : List ℕ → ℕ → Placed
placed_at bytes a =
    option_map_or (placed_by (extensions_of bytes) bytes a) (half_at bytes a) bad
