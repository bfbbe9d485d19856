-- What the two tables of extensions keep, whatever the word and whatever a file names.
use Rattle.std.specs.Prelude.{◌≡◌, ℕ, Bool, false, List, Some, None, IsTrue, slice_get}
use Rattle.elf_image.specs.declared.extensions.Extensions.{Extensions}
use Rattle.rv_decode.specs.Table as base
use Rattle.rv_decode.specs.declared.instructions.Insn.{Insn}
use Rattle.rv_float.specs.Table as float
use Rattle.rv_float.specs.Forms as float_forms
use Rattle.rvc_expand.specs.Table as compressed
use Rattle.rv_extensions.specs.Rows.{Row, holds}
use Rattle.rv_extensions.specs.Table.{extension_rows}
use Rattle.rv_extensions.specs.IntegerFloats.{integer_float_rows, named_instruction}
use Rattle.rv_extensions.specs.Forms.{extension_forms, extension_form, takes_doubles}

-- At most one row of a table holds of a word: two that do stand at one place.
abbrev pub AtMostOneHolds : List Row → Type 0
AtMostOneHolds rows =
    (w i j : ℕ) (r s : Row) → slice_get rows i ≡ Some r → slice_get rows j ≡ Some s
    → IsTrue (holds r w) → IsTrue (holds s w) → i ≡ j

-- So of a word at most one row holds, also of a file that names all extensions.
abbrev pub AtMostOneRowHolds : Type 0
AtMostOneRowHolds = AtMostOneHolds extension_rows × AtMostOneHolds integer_float_rows

abbrev pub AtMostOneFormHolds : Type 0
AtMostOneFormHolds = AtMostOneHolds extension_forms

-- An instruction of an extension is none of the base table, and none of the float table, unless the
-- file has its floats in integer registers.
abbrev pub TablesAreApart : Type 0
TablesAreApart =
    (e : Extensions) (w : ℕ) (found : Insn) → named_instruction e w ≡ Some found
    → (base.instruction w ≡ None) × (e.zfinx ≡ false → float.float_instruction w ≡ None)

-- A 16-bit instruction of an extension is no compressed form of RV64GC, but where the file takes
-- away the loads and stores of doubles.
abbrev pub FormsAreApart : Type 0
FormsAreApart =
    (e : Extensions) (half : ℕ) (found : Insn) → extension_form e half ≡ Some found
    → (compressed.expansion half ≡ None)
    × (takes_doubles e ≡ false → float_forms.float_expansion half ≡ None)

-- a file that names no extension
abbrev pub unnamed : Extensions
unnamed =
    record {
      zba = false;
      zbb = false;
      zbs = false;
      zbc = false;
      zbkb = false;
      zbkc = false;
      zbkx = false;
      zknd = false;
      zkne = false;
      zknh = false;
      zksed = false;
      zksh = false;
      zicond = false;
      zcb = false;
      zcmp = false;
      zcmt = false;
      zimop = false;
      zcmop = false;
      zacas = false;
      zabha = false;
      zawrs = false;
      zicbom = false;
      zicboz = false;
      zicfiss = false;
      zicfilp = false;
      zfinx = false;
      zhinx = false;
      zhinxmin = false;
      zfh = false;
      zfhmin = false;
      zfa = false;
      zfbfmin = false;
      zvfh = false;
      vector = false;
      xthead = false;
    }

-- Without a name nothing is an instruction of an extension.
abbrev pub UnnamedIsNone : Type 0
UnnamedIsNone =
    (w : ℕ) → (named_instruction unnamed w ≡ None) × (extension_form unnamed w ≡ None)
