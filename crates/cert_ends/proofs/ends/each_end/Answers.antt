use Rattle.std.proofs.Common.{ℕ, List, get_or, [], sym, subst}
use Rattle.std.proofs.lemmas.Option.{slice_get-get_or}
use Rattle.cfg_model.specs.Graph.Listing.{Gains}
use Rattle.cfg_model.specs.Program.Chain.{IsTerminatorOf}
use Rattle.cfg_model.proofs.Graphs.Gaining.{Each, Gains-start, Gains-each, Gains-all}
use Rattle.cert_text.specs.declared.lines.LeadLine.{LeadLine}
use Rattle.cert_text.specs.declared.lines.LeadWhy.TheVariants.{Seed}
use Rattle.cert_ends.proofs.ListedEnds.{end_added}
use Rattle.cert_ends.proofs.ends.each_end.Goals as goal

pub loop-line-init : goal.loop-line-init
loop-line-init g c =
    subst (λ (l : List ℕ). Gains [] l (Each [] (λ (line : LeadLine). IsTerminatorOf (g.C.Chains.map c.args.code.now) line.at))) (sym c.new-ends.ensures.items)
    (Gains-start (λ (line : LeadLine). IsTerminatorOf (g.C.Chains.map c.args.code.now) line.at) [])

pub loop-line-preserved : goal.loop-line-preserved
loop-line-preserved g c =
    let none : LeadLine = record { at = 0; rank = 0; why = Seed } in
    let map = g.C.Chains.map c.args.code.now in
    let leads = c.args.leads.now in
    let line = get_or leads c.loop-line.line-index none in
    Gains-each leads c.loop-line.line-index line (λ (line : LeadLine). IsTerminatorOf map line.at) _ _ _
    (slice_get-get_or leads c.loop-line.line-index none c.loop-line-test.true)
    c.loop-line.invariant
    (end_added map line.at c.term.result _ _ c.term.ensures.term c.in_ok-add_end.ensures)

pub returns : goal.returns
returns g c = Gains-all c.args.leads.now c.loop-line.line-index (λ (line : LeadLine). IsTerminatorOf (g.C.Chains.map c.args.code.now) line.at) _ _ c.loop-line-test.false c.loop-line.invariant
