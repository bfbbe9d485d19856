use Rattle.std.proofs.Common.{refl}
use Rattle.elf_maker.specs.Fields.{words}
use Rattle.big_case.proofs.Slots.{slot_filled}
use Rattle.big_case.proofs.code.slot_of.Goals as goal

pub returns : goal.returns
unfolding words
returns c = slot_filled c.args.words.now c.write_u32_into.new.dst _ c.write_u32_into.ensures refl
