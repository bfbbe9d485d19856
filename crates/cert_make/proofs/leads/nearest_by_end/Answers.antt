use Rattle.std.proofs.Common.{◌∙◌, sym, ap, length}
use Rattle.cert_make.proofs.Linked.{are_nearest, ends_as_many, ends_within, exits_within}
use Rattle.cert_make.proofs.leads.nearest_by_end.Goals as goal

pub nearest_to_ends-requires-clause-as_many : goal.nearest_to_ends-requires-clause-as_many
nearest_to_ends-requires-clause-as_many g c = ends_as_many (g.C.Chains.map c.args._code.now) c.args.lines.now c.args.links.now c.requires

pub nearest_to_ends-requires-clause-within : goal.nearest_to_ends-requires-clause-within
nearest_to_ends-requires-clause-within g c = ends_within (g.C.Chains.map c.args._code.now) c.args.lines.now c.args.links.now c.requires

pub nearest_to_leads-requires : goal.nearest_to_leads-requires
nearest_to_leads-requires g c =
    rw c.as_slice-exits.ensures.value (exits_within (g.C.Chains.map c.args._code.now) c.args.lines.now c.args.links.now c.requires (length c.as_slice.result.now)
    (ap length c.as_slice.ensures.value ∙ c.in_ok-offers.ensures.long))

pub returns : goal.returns
returns g c =
    are_nearest (g.C.Chains.map c.args._code.now) c.args.lines.now c.args.links.now c.requires c.in_ok-offers.offers.items c.in_ok-nearest.nearest.items
    c.in_ok-offers.ensures (rw (sym c.as_slice-exits.ensures.value, sym c.as_slice.ensures.value) c.in_ok-nearest.ensures)
