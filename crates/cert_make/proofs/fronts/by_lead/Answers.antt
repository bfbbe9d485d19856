use Rattle.std.proofs.Common.{List, subst}
use Rattle.std.specs.List.Sorted.{IsPermutation}
use Rattle.cert_make.specs.declared.fronts.Source.{Source}
use Rattle.cert_make.proofs.Sources.{both_moved}
use Rattle.cert_make.proofs.fronts.by_lead.Goals as goal

pub returns : goal.returns
returns c =
    both_moved c.args.one.items c.args.other.items c.sort_unstable_by_key.new.self.items
    (subst (λ (xs : List Source). IsPermutation xs c.sort_unstable_by_key.new.self.items) c.in_ok-append.ensures.items c.sort_unstable_by_key.ensures.permutation)
