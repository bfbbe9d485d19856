use Rattle.std.proofs.Common.{arith}
use Rattle.elf_image.proofs.LaidOut.{found-after}
use Rattle.elf_image.proofs.address_index.AddressIndex.found_from.Goals as goal

pub returns-then-self-clause-same : goal.returns-then-self-clause-same
returns-then-self-clause-same c = λ i within.
    found-after c.args.self.now.sections.items (c.args.self.now.laid_out c.if-self.true) c.args.a c.args.n i c.args.s.now c.requires.some c.requires.found c.requires.start
    (omega (arith, within, c.requires.start, c.requires.end))
