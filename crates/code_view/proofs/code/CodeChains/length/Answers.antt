use Rattle.std.proofs.Common.{◌∙◌, ap, sym, refl, Some}
use Rattle.rv_flow.specs.Placed.{placed_at}
use Rattle.code_view.specs.Cuts.{cut_of}
use Rattle.code_view.proofs.Lawful.{code_of, length-program}
use Rattle.code_view.proofs.code.CodeChains.length.Goals as goal

pub told_length-requires : goal.told_length-requires
told_length-requires c = code_of c.args.self.now.bytes (cut_of c.args.self.now.cuts) c.args.a c.requires

pub returns-clause-length : goal.returns-clause-length
returns-clause-length c =
    let code = c.args.self.now in
    let cuts = cut_of code.cuts in
    length-program code.bytes cuts c.args.a (code_of code.bytes cuts c.args.a c.requires) (placed_at code.bytes c.args.a) refl
    ∙ ap (λ n. Some n) (sym c.told_length.ensures.length)
