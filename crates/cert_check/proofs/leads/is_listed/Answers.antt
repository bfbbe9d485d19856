use Rattle.std.proofs.Common.{Bool, ◌↔◌, IsTrue, sym, subst}
use Rattle.std.specs.List.{Contains}
use Rattle.cfg_model.proofs.Graphs.Lists.{found_iff}
use Rattle.cert_check.proofs.leads.is_listed.Goals as goal

pub returns : goal.returns
returns c =
    subst (λ (b : Bool). IsTrue b ↔ Contains c.args.addresses.now c.args.a) (sym c.is_ok.ensures.value)
    (found_iff c.args.addresses.now c.args.a c.binary_search.result c.requires c.binary_search.ensures.position)
