-- The made file is what its readers are promised.
use Rattle.std.proofs.Common.{◌≡◌, None, refl}
use Rattle.elf_image.specs.Faults.{has_fault, first_among, first_fault}
use Rattle.elf_maker.specs.declared.parts.Parts.{Parts}
use Rattle.elf_maker.specs.MadeFile.{made_file}
use Rattle.elf_maker.specs.MadeOf.{IsMadeOf}
use Rattle.elf_maker.proofs.Fitting.{AreFit}
use Rattle.elf_maker.proofs.MadeSections.{entry_made}
use Rattle.elf_maker.proofs.ReadParts.{code_made, halves_made, words_made, read_only_made, data_words_made}
use Rattle.elf_maker.proofs.NoFault as fault
use Rattle.elf_maker.proofs.ReadSeeds.{right_symbol_table, right_symbol_names, seeds_made}

module _ (parts : Parts) (fit : AreFit parts) where
  no_fault : first_fault (made_file parts) ≡ None
  unfolding has_fault first_among first_fault
  no_fault =
      rw (
        fault.not_too_large parts fit,
        fault.not_short parts fit,
        fault.right_magic parts fit,
        fault.right_class parts fit,
        fault.right_data parts fit,
        fault.right_version parts fit,
        fault.right_machine parts fit,
        fault.right_type parts fit,
        fault.right_header_size parts fit,
        fault.no_bad_program_table parts fit,
        fault.no_interpreter parts fit,
        fault.some_sections parts fit,
        fault.right_section_table parts fit,
        fault.sections_in_file parts fit,
        fault.no_section_wraps parts fit,
        fault.no_odd_code parts fit,
        fault.no_code_overlap parts fit,
        fault.entry_is_code parts fit,
        right_symbol_table parts fit,
        right_symbol_names parts fit,
      ) refl

  pub made-is_made_of : IsMadeOf parts (made_file parts)
  made-is_made_of = record {
    no_fault = no_fault;
    entry = entry_made parts fit;
    code = code_made parts fit;
    halves = halves_made parts fit;
    words = words_made parts fit;
    read_only = read_only_made parts fit;
    data_words = data_words_made parts fit;
    seeds = seeds_made parts fit;
  }
