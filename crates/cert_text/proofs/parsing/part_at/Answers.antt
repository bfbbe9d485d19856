use Rattle.std.proofs.Common.{ℕ, List, ◌++◌, Bor, ◌∙◌}
use Rattle.std.specs.List.{flat_map}
use Rattle.std.proofs.lemmas.Result.{err_from_is_err_and}
use Rattle.cert_text.specs.declared.certificate.Part.{Part}
use Rattle.cert_text.specs.Line.{lead_line}
use Rattle.cert_text.proofs.Parts.{part_returns, after_returns, part_same}
use Rattle.cert_text.proofs.Exits.{both_at_memory}
use Rattle.cert_text.proofs.parsing.part_at.Goals as goal

abbrev value : Part × Bor (List ℕ) → Part
value x = x.0

abbrev left : Part × Bor (List ℕ) → List ℕ
left x = x.1.now

pub returns-in_err-returns-clause-only : goal.returns-in_err-returns-clause-only
returns-in_err-returns-clause-only c = λ part rest of stops.
    let a = part_returns c.args.bytes.now part rest of stops in
    let p = err_from_is_err_and c.from_residual.result c.from_residual.ensures.1 in
    both_at_memory value left c.from_residual.result part rest p.0 _ p.1 p.2 (c.in_err-returns.ensures.only part.returns (flat_map lead_line part.leads ++ rest) a.0 a.1)

pub returns-in_err-leads-clause-only : goal.returns-in_err-leads-clause-only
returns-in_err-leads-clause-only c = λ part rest of stops.
    let a = part_returns c.args.bytes.now part rest of stops in
    let one = c.in_ok-returns.ensures.only part.returns (flat_map lead_line part.leads ++ rest) a.0 a.1 in
    let there = after_returns c.args.bytes.now c.in_ok-returns.returns.items c.in_ok-returns.rest.now part rest of one.1 in
    let p = err_from_is_err_and c.from_residual-in_err-leads.result c.from_residual-in_err-leads.ensures.1 in
    both_at_memory value left c.from_residual-in_err-leads.result part rest p.0 _ p.1 p.2 (c.in_err-leads.ensures.only part.leads rest there stops.no_lead)

pub returns-clause-only : goal.returns-clause-only
returns-clause-only c = λ part rest of stops.
    let a = part_returns c.args.bytes.now part rest of stops in
    let one = c.in_ok-returns.ensures.only part.returns (flat_map lead_line part.leads ++ rest) a.0 a.1 in
    let there = after_returns c.args.bytes.now c.in_ok-returns.returns.items c.in_ok-returns.rest.now part rest of one.1 in
    let other = c.in_ok-leads.ensures.only part.leads rest there stops.no_lead in
    (part_same c.from_vec.result c.from_vec-2.result part (c.from_vec.ensures ∙ one.0) (c.from_vec-2.ensures ∙ other.0), other.1)
