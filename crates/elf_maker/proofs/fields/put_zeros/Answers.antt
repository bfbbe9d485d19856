use Rattle.std.proofs.Common.{ℕ, arith}
use Rattle.std.proofs.lemmas.List.{take-replicate}
use Rattle.elf_maker.proofs.fields.put_zeros.Goals as goal

pub returns : goal.returns
returns c = let zeros = take-replicate {X = ℕ} c.args.count 8 0 c.requires in grind (arith, zeros)
