use Rattle.std.proofs.Common.{ℕ, List, ◌++◌, sym}
use Rattle.std.specs.Prelude.{codes}
use Rattle.std.proofs.lemmas.Bool.{iff_false}
use Rattle.std.proofs.lemmas.Result.{err_from_is_err_and}
use Rattle.cert_text.specs.declared.certificate.Certificate.{Certificate}
use Rattle.cert_text.specs.Text.{cut_text}
use Rattle.cert_text.proofs.Parts.{no_heading, text_found, text_plain, text_cut, cut_stops, certificate_same}
use Rattle.cert_text.proofs.Exits.{at_memory, not_at_memory}
use Rattle.cert_text.proofs.parsing.parse.Goals as goal

-- what stands after the first part of a text
abbrev tail : Certificate → List ℕ
tail certificate = cut_text certificate.second ++ codes "end\n"

pub returns-in_default-clause-only : goal.returns-in_default-clause-only
returns-in_default-clause-only c = λ certificate of. absurd (no_heading c.args.bytes.now certificate (sym c.in_default.ensures) of)

pub returns-in_default-clause-no_text : goal.returns-in_default-clause-no_text
returns-in_default-clause-no_text c = λ is certificate of. no_heading c.args.bytes.now certificate (sym c.in_default.ensures) of

pub returns-in_err-part-clause-only : goal.returns-in_err-part-clause-only
returns-in_err-part-clause-only c = λ certificate of.
    let part = text_plain c.args.bytes.now c.in-Some.rest.now certificate (sym c.in-Some.ensures) of in
    let p = err_from_is_err_and c.from_residual.result c.from_residual.ensures.1 in
    at_memory c.from_residual.result certificate p.0 _ p.1 p.2 (c.in_err-part.ensures.only certificate.part (tail certificate) part (cut_stops certificate.second))

pub returns-in_err-part-clause-no_text : goal.returns-in_err-part-clause-no_text
returns-in_err-part-clause-no_text c = λ is certificate of.
    let part = text_plain c.args.bytes.now c.in-Some.rest.now certificate (sym c.in-Some.ensures) of in
    let p = err_from_is_err_and c.from_residual.result c.from_residual.ensures.1 in
    not_at_memory c.from_residual.result p.0 _ p.1 p.2 (c.in_err-part.ensures.only certificate.part (tail certificate) part (cut_stops certificate.second)) is

pub returns-in_err-second-clause-only : goal.returns-in_err-second-clause-only
returns-in_err-second-clause-only c = λ certificate of.
    let part = text_plain c.args.bytes.now c.in-Some.rest.now certificate (sym c.in-Some.ensures) of in
    let one = c.in_ok-part.ensures.only certificate.part (tail certificate) part (cut_stops certificate.second) in
    let second = text_cut c.args.bytes.now certificate c.in_ok-part.rest.now of one.1 in
    let p = err_from_is_err_and c.from_residual-in_err-second.result c.from_residual-in_err-second.ensures.1 in
    at_memory c.from_residual-in_err-second.result certificate p.0 _ p.1 p.2 (c.in_err-second.ensures.only certificate.second second)

pub returns-in_err-second-clause-no_text : goal.returns-in_err-second-clause-no_text
returns-in_err-second-clause-no_text c = λ is certificate of.
    let part = text_plain c.args.bytes.now c.in-Some.rest.now certificate (sym c.in-Some.ensures) of in
    let one = c.in_ok-part.ensures.only certificate.part (tail certificate) part (cut_stops certificate.second) in
    let second = text_cut c.args.bytes.now certificate c.in_ok-part.rest.now of one.1 in
    let p = err_from_is_err_and c.from_residual-in_err-second.result c.from_residual-in_err-second.ensures.1 in
    not_at_memory c.from_residual-in_err-second.result p.0 _ p.1 p.2 (c.in_err-second.ensures.only certificate.second second) is

pub returns-then-is_last_line-clause-found : goal.returns-then-is_last_line-clause-found
returns-then-is_last_line-clause-found c =
    text_found c.args.bytes.now c.in-Some.rest.now c.in_ok-part.rest.now c.in_ok-second.rest.now c.in_ok-part.part c.in_ok-second.second (sym c.in-Some.ensures) c.in_ok-part.ensures.found c.in_ok-second.ensures.found (c.is_last_line.ensures.0 c.if-is_last_line.true)

pub returns-then-is_last_line-clause-only : goal.returns-then-is_last_line-clause-only
returns-then-is_last_line-clause-only c = λ certificate of.
    let part = text_plain c.args.bytes.now c.in-Some.rest.now certificate (sym c.in-Some.ensures) of in
    let one = c.in_ok-part.ensures.only certificate.part (tail certificate) part (cut_stops certificate.second) in
    let second = text_cut c.args.bytes.now certificate c.in_ok-part.rest.now of one.1 in
    let other = c.in_ok-second.ensures.only certificate.second second in
    certificate_same c.in_ok-part.part c.in_ok-second.second certificate one.0 other.0

pub returns-else-is_last_line-clause-only : goal.returns-else-is_last_line-clause-only
returns-else-is_last_line-clause-only c = λ certificate of.
    let part = text_plain c.args.bytes.now c.in-Some.rest.now certificate (sym c.in-Some.ensures) of in
    let one = c.in_ok-part.ensures.only certificate.part (tail certificate) part (cut_stops certificate.second) in
    let second = text_cut c.args.bytes.now certificate c.in_ok-part.rest.now of one.1 in
    let other = c.in_ok-second.ensures.only certificate.second second in
    absurd (iff_false c.is_last_line.ensures c.if-is_last_line.false other.1)

pub returns-else-is_last_line-clause-no_text : goal.returns-else-is_last_line-clause-no_text
returns-else-is_last_line-clause-no_text c = λ is certificate of.
    let part = text_plain c.args.bytes.now c.in-Some.rest.now certificate (sym c.in-Some.ensures) of in
    let one = c.in_ok-part.ensures.only certificate.part (tail certificate) part (cut_stops certificate.second) in
    let second = text_cut c.args.bytes.now certificate c.in_ok-part.rest.now of one.1 in
    let other = c.in_ok-second.ensures.only certificate.second second in
    iff_false c.is_last_line.ensures c.if-is_last_line.false other.1
