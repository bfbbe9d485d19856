use Rattle.std.proofs.Common.{◌∙◌, ap, sym}
use Rattle.code_view.specs.Cuts.{cut_of}
use Rattle.code_view.proofs.Counts.{get-lookup}
use Rattle.code_view.proofs.cuts.Cuts.count.Goals as goal

pub returns : goal.returns
returns c =
    c.copied.ensures ∙ c.get.ensures.value ∙ sym (get-lookup c.args.j c.self.inside.counts.entries)
    ∙ ap (λ m. cut_of m c.args.j) c.self.view_is
