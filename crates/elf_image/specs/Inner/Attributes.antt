-- The reader of attributes. No public clause names what stands here.
use Rattle.std.specs.Prelude.{ℕ, ◌%◌, nat_lt, List}
use Rattle.std.specs.declared.option.Option.{Option}
use Rattle.elf_image.specs.declared.attributes.Number as number
use Rattle.elf_image.specs.declared.attributes.Record as record_read
use Rattle.elf_image.specs.declared.attributes.Kind.{Kind}
use Rattle.elf_image.specs.declared.attributes.Kind.TheVariants.{Subsection, Part, Attribute}
use Rattle.elf_image.specs.Attributes.{Leb, Record, subsection, part, attribute}

-- what is kept of a number
abbrev pub number_of : Leb → number.Number
number_of n = record { low = n.value % 128; is_small = nat_lt n.value 128; size = n.size }

-- a record by its parts
abbrev pub record_of : record_read.Record → Record
record_of r = record { is_wanted = r.is_wanted; body = r.body.now; rest = r.rest.now }

-- the reader of a kind of records
abbrev pub reader : Kind → List ℕ → Option Record
reader Subsection = subsection
reader Part = part
reader Attribute = attribute
