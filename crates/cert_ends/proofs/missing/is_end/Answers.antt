use Rattle.std.proofs.Common.{Bool, ◌↔◌, IsTrue, sym, subst}
use Rattle.std.specs.List.{Contains}
use Rattle.cfg_model.proofs.Graphs.Lists.{found_iff}
use Rattle.cert_ends.proofs.missing.is_end.Goals as goal

pub returns : goal.returns
returns c =
    subst (λ (b : Bool). IsTrue b ↔ Contains c.args.ends.now c.args.k) (sym c.is_ok.ensures.value)
    (found_iff c.args.ends.now c.args.k c.binary_search.result c.requires c.binary_search.ensures.position)
