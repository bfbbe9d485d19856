use Rattle.std.proofs.Common.{◌≡◌, ◌∙◌, sym, ap, subst, List, ℕ, Option}
use Rattle.std.specs.Option.{MatchOption}
use Rattle.cfg_model.specs.declared.graph.Graph.{Graph}
use Rattle.cfg_model.specs.Graph.Graph.{IsGraph}
use Rattle.code_view.specs.FileCode.{FileCode, program_of}
use Rattle.code_view.proofs.Views.{none-fits}
use Rattle.file_program.specs.FileGraph.{AreCutsOf}
use Rattle.cert_text.specs.declared.certificate.Part.{Part}
use Rattle.cert_laws.specs.Valid.{IsValid}
use Rattle.cert_check.proofs.Checked.{two-parts, one-part, not-valid, is-certificate, is-graph}
use Rattle.cert_check.proofs.checker.check.Goals as goal

-- What is answered of a part.
abbrev Judged : FileCode → List ℕ → ℕ → Part → Option Graph → Type 0
Judged code from start part o =
    MatchOption o (¬ IsValid (program_of code) from part)
    (λ graph. IsValid (program_of code) from part × IsGraph (program_of code) from start graph)

pub new-uncut-requires-clause-cuts : goal.new-uncut-requires-clause-cuts
new-uncut-requires-clause-cuts c = none-fits c.args.image.now _ c.none-none.ensures

pub returns-then-is_some-clause-refused : goal.returns-then-is_some-clause-refused
returns-then-is_some-clause-refused c = two-parts c.args.image.now c.args.certificate.now (sym c.is_some.ensures ∙ c.if-is_some.true)

pub returns-in-Some-clause-graph : goal.returns-in-Some-clause-graph
returns-in-Some-clause-graph c =
    let bytes = c.args.image.now in
    let code : FileCode = c.under-code.result in
    let cuts = c.in_ok-cuts.cuts in
    let plain : c.new-uncut.result.bytes ≡ bytes = c.new-uncut.ensures.bytes in
    let same : code.bytes ≡ bytes = c.under-code.ensures.bytes ∙ ap (λ (f : FileCode). f.bytes) c.with_tables-uncut.ensures ∙ plain in
    let are = subst (λ (b : List ℕ). AreCutsOf b cuts) plain (c.in_ok-cuts.ensures.cuts c.new-uncut.result.bytes c.in_ok-tables.ensures) in
    let starts = c.addresses-starts.result.now in
    let right = subst (Judged code starts c.entry-entry.result c.args.certificate.now.part) c.in-Some.is c.in_ok-graph.ensures in
    is-graph bytes starts c.args.certificate.now code cuts same c.under-code.ensures.cuts (c.addresses-starts.ensures.addresses ∙ c.requires.seeds.addresses) are
    c.entry-entry.result c.in-Some.graph c.entry-entry.ensures.entry right.1

pub returns-in-Some-clause-valid : goal.returns-in-Some-clause-valid
returns-in-Some-clause-valid c =
    let bytes = c.args.image.now in
    let code : FileCode = c.under-code.result in
    let cuts = c.in_ok-cuts.cuts in
    let plain : c.new-uncut.result.bytes ≡ bytes = c.new-uncut.ensures.bytes in
    let same : code.bytes ≡ bytes = c.under-code.ensures.bytes ∙ ap (λ (f : FileCode). f.bytes) c.with_tables-uncut.ensures ∙ plain in
    let are = subst (λ (b : List ℕ). AreCutsOf b cuts) plain (c.in_ok-cuts.ensures.cuts c.new-uncut.result.bytes c.in_ok-tables.ensures) in
    let starts = c.addresses-starts.result.now in
    let right = subst (Judged code starts c.entry-entry.result c.args.certificate.now.part) c.in-Some.is c.in_ok-graph.ensures in
    is-certificate bytes starts c.args.certificate.now code cuts same c.under-code.ensures.cuts (c.addresses-starts.ensures.addresses ∙ c.requires.seeds.addresses) are
    (one-part c.args.certificate.now.second (sym c.is_some.ensures ∙ c.if-is_some.false)) right.0

pub returns-clause-refused : goal.returns-clause-refused
returns-clause-refused c =
    let bytes = c.args.image.now in
    let code : FileCode = c.under-code.result in
    let cuts = c.in_ok-cuts.cuts in
    let plain : c.new-uncut.result.bytes ≡ bytes = c.new-uncut.ensures.bytes in
    let same : code.bytes ≡ bytes = c.under-code.ensures.bytes ∙ ap (λ (f : FileCode). f.bytes) c.with_tables-uncut.ensures ∙ plain in
    let are = subst (λ (b : List ℕ). AreCutsOf b cuts) plain (c.in_ok-cuts.ensures.cuts c.new-uncut.result.bytes c.in_ok-tables.ensures) in
    let starts = c.addresses-starts.result.now in
    let wrong = subst (Judged code starts c.entry-entry.result c.args.certificate.now.part) c.in-None.is c.in_ok-graph.ensures in
    not-valid bytes starts c.args.certificate.now code cuts same c.under-code.ensures.cuts (c.addresses-starts.ensures.addresses ∙ c.requires.seeds.addresses) are wrong
