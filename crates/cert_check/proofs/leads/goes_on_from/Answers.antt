use Rattle.std.proofs.Common.{◌≡◌, ◌+◌, ◌-◌, List, length, refl, sym, ap, subst, arith}
use Rattle.std.specs.Prelude.{◌↔◌, IsTrue}
use Rattle.cfg_model.specs.declared.flow.Flow.TheVariants.{Straight}
use Rattle.cfg_model.proofs.Program.Code.{flow_stands}
use Rattle.cert_check.specs.declared.blocks.Run.{Run}
use Rattle.cert_check.specs.Inner.Jumps.{IsForest, LeadsAlong}
use Rattle.cert_check.proofs.Each.{false_true}
use Rattle.cert_check.proofs.Along.{forest_of}
use Rattle.cert_check.proofs.Reasoned.{from_none, from_owner}
use Rattle.cert_check.proofs.leads.goes_on_from.Goals as goal

pub leads_along-requires-clause-forest : goal.leads_along-requires-clause-forest
leads_along-requires-clause-forest g c =
    let are = c.requires.reasons in
    let reasons = c.args.reasons.now in
    subst IsForest (sym c.as_slice.ensures.value)
    (forest_of (g.C.Chains.map c.args.code.now) reasons.part.now.leads are.lawful are.leads reasons.blocks.now.runs.items are.blocks.runs)

pub leads_along-requires-clause-to : goal.leads_along-requires-clause-to
leads_along-requires-clause-to g c =
    let map = g.C.Chains.map c.args.code.now in
    let are = c.requires.reasons in
    let known = flow_stands map (c.args.a - c.args.bytes) (Straight c.args.a) (c.if-not-goes_on_to.ensures.exact.0 refl) in
    let right = are.blocks.owned.right (c.args.a - c.args.bytes) c.in-Some-of.i known (sym c.in-Some-of.ensures) in
    omega (arith, right.0, are.blocks.runs.as_many, ap length c.as_slice.ensures.value)

pub returns-in-Some-of : goal.returns-in-Some-of
returns-in-Some-of g c =
    let map = g.C.Chains.map c.args.code.now in
    let goes = c.if-not-goes_on_to.ensures.exact.0 refl in
    let known = flow_stands map (c.args.a - c.args.bytes) (Straight c.args.a) goes in
    let at : (c.args.a - c.args.bytes) + c.args.bytes ≡ c.args.a = omega (arith, c.if-a-bytes.false) in
    from_owner map (g.C.Numbered.number c.args.code.now) c.args.reasons.now c.requires.reasons c.args.bytes c.args.lead c.args.a (c.args.a - c.args.bytes) at
    c.leads_along.result c.in-Some.place c.in-Some-of.i
    c.in-Some.ensures
    goes known (sym c.in-Some-of.ensures)
    (subst (λ (runs : List Run). IsTrue c.leads_along.result ↔ LeadsAlong runs c.in-Some.place c.in-Some-of.i) c.as_slice.ensures.value c.leads_along.ensures)

pub returns-in-None : goal.returns-in-None
returns-in-None g c =
    let at : (c.args.a - c.args.bytes) + c.args.bytes ≡ c.args.a = omega (arith, c.if-a-bytes.false) in (
      λ e. false_true e,
      λ h. absurd
          (from_none (g.C.Chains.map c.args.code.now) (g.C.Numbered.number c.args.code.now) c.args.reasons.now c.requires.reasons c.args.bytes c.args.lead c.args.a (c.args.a - c.args.bytes) at
          c.in-Some.place c.in-Some.ensures (sym c.in-None.ensures) h.1),
    )
