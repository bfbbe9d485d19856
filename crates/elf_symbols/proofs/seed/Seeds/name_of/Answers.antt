use Rattle.std.proofs.Common.{◌∙◌, ap}
use Rattle.elf_symbols.specs.Seeds.{name_in}
use Rattle.elf_symbols.proofs.FindSeed.{name-found, name-absent}
use Rattle.elf_symbols.proofs.seed.Seeds.name_of.Goals as goal

pub returns-in-Ok : goal.returns-in-Ok
returns-in-Ok c =
    name-found c.self.inside.seeds.items c.deref.result.now c.self.inside.addresses.items c.deref.ensures.value c.self.invariant.addresses c.self.invariant.rising
    c.in-Ok.i c.args.a c.in-Ok.ensures.position c.index.result.now c.index.ensures
    ∙ ap (λ seeds. name_in seeds c.args.a) c.self.view_is

pub returns-in-Err : goal.returns-in-Err
returns-in-Err c =
    name-absent c.self.inside.seeds.items c.deref.result.now c.self.inside.addresses.items c.deref.ensures.value c.self.invariant.addresses c.self.invariant.rising
    c.in-Err.field-0 c.args.a c.in-Err.ensures.position
    ∙ ap (λ seeds. name_in seeds c.args.a) c.self.view_is
