use Rattle.std.proofs.Common.{ℕ, List, Option, Bor, sym, ap, ◌∙◌}
use Rattle.std.specs.Prelude.{codes}
use Rattle.std.proofs.lemmas.Result.{err_from_is_err_and}
use Rattle.cert_text.specs.declared.certificate.Part.{Part}
use Rattle.cert_text.proofs.Fields.{some}
use Rattle.cert_text.proofs.Parts.{no_cut_only, cut_found, cut_only, end_stops}
use Rattle.cert_text.proofs.Exits.{both_at_memory}
use Rattle.cert_text.proofs.parsing.cut_at.Goals as goal

abbrev value : Option Part × Bor (List ℕ) → Option Part
value x = x.0

abbrev left : Option Part × Bor (List ℕ) → List ℕ
left x = x.1.now

abbrev end : List ℕ
end = codes "end\n"

pub returns-in_err-part-in-Some-clause-only : goal.returns-in_err-part-in-Some-clause-only
returns-in_err-part-in-Some-clause-only c = λ cut of.
    let k = cut_only c.args.bytes.now c.in-Some.rest.now cut (sym c.in-Some.ensures) of in
    let p = err_from_is_err_and c.from_residual.result c.from_residual.ensures.1 in
    both_at_memory value left c.from_residual.result cut end p.0 _ p.1 p.2 (c.in_err-part-in-Some.ensures.only k.0 end k.2 end_stops)

pub returns-in-None-clause-only : goal.returns-in-None-clause-only
returns-in-None-clause-only c = λ cut of. no_cut_only c.args.bytes.now cut (sym c.in-None.ensures) of

pub returns-in_ok-part-in-Some-clause-found : goal.returns-in_ok-part-in-Some-clause-found
returns-in_ok-part-in-Some-clause-found c =
    cut_found c.args.bytes.now c.in-Some.rest.now c.in_ok-part-in-Some.part c.in_ok-part-in-Some.rest.now (sym c.in-Some.ensures) c.in_ok-part-in-Some.ensures.found

pub returns-in_ok-part-in-Some-clause-only : goal.returns-in_ok-part-in-Some-clause-only
returns-in_ok-part-in-Some-clause-only c = λ cut of.
    let k = cut_only c.args.bytes.now c.in-Some.rest.now cut (sym c.in-Some.ensures) of in
    let same = c.in_ok-part-in-Some.ensures.only k.0 end k.2 end_stops in
    (ap (λ (p : Part). some p) same.0 ∙ sym k.1, same.1)
