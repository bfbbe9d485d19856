use Rattle.std.proofs.Common.{◌≡◌, ◌∙◌, ◌≤◌, Some, ap, sym, subst, take}
use Rattle.std.specs.Prelude.{IfOk}
use Rattle.jump_table.specs.Table.{table_at, table_targets}
use Rattle.code_view.specs.Cuts.{cut_of}
use Rattle.code_view.specs.FileCode.{FileCode}
use Rattle.code_view.specs.Flow.{kept_entries}
use Rattle.code_view.proofs.Lawful.{code_of, table-fits}
use Rattle.code_view.proofs.KeptTargets.{targets-of-table}
use Rattle.code_view.proofs.Views.{lawful-view}
use Rattle.code_view.proofs.code.CodeChains.targets.Goals as goal

pub table-requires : goal.table-requires
table-requires c = code_of c.args.self.now.bytes (cut_of c.args.self.now.cuts) c.args.a c.requires

pub kept_targets-requires-clause-within : goal.kept_targets-requires-clause-within
kept_targets-requires-clause-within c =
    let table = c.in-Some.table in
    let is : table_at c.self.inside.image.now c.args.a ≡ Some table =
    ap (λ (f : FileCode). table_at f.bytes c.args.a) c.self.view_is ∙ sym c.in-Some.ensures in
    subst (λ cut. kept_entries cut table ≤ table.count) (sym c.count.ensures)
    (table-fits c.self.inside.image.now (cut_of c.self.inside.cuts.now) c.self.invariant.cuts c.args.a (Some table) is).within

pub returns-in-Some-clause-targets : goal.returns-in-Some-clause-targets
returns-in-Some-clause-targets c =
    let code = c.args.self.now in
    let a = c.args.a in
    let table = c.in-Some.table in
    subst (λ targets. IfOk c.kept_targets.result (λ v. v.items ≡ targets))
    (ap (λ cut. take (kept_entries cut table) (table_targets c.self.inside.image.now table)) c.count.ensures
    ∙ ap (λ (f : FileCode). take (kept_entries (cut_of f.cuts a) table) (table_targets f.bytes table)) c.self.view_is
    ∙ sym (targets-of-table code.bytes (cut_of code.cuts) a (code_of code.bytes (cut_of code.cuts) a c.requires) table (sym c.in-Some.ensures)))
    c.kept_targets.ensures

pub returns-in-Some-clause-lawful : goal.returns-in-Some-clause-lawful
returns-in-Some-clause-lawful c = lawful-view _ _ c.self.invariant.accepted c.self.invariant.cuts _ c.self.view_is

pub pads-requires : goal.pads-requires
pads-requires c = record { code = code_of c.args.self.now.bytes (cut_of c.args.self.now.cuts) c.args.a c.requires; table = sym c.in-None.ensures }

pub returns-in-None-clause-lawful : goal.returns-in-None-clause-lawful
returns-in-None-clause-lawful c = lawful-view _ _ c.self.invariant.accepted c.self.invariant.cuts _ c.self.view_is
