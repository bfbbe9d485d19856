use Rattle.std.proofs.Common.{◌≡◌, ◌+◌, ◌-◌, ◌∙◌, None, ap, sym, subst, arith}
use Rattle.std.specs.Prelude.{option_to_list}
use Rattle.std.specs.Option.{option_and_then}
use Rattle.rv_flow.specs.Placed.{placed_at}
use Rattle.landing_pads.specs.Pad.{pad_at}
use Rattle.cfg_model.proofs.Program.Landing.{call_at}
use Rattle.code_view.specs.Cuts.{cut_of}
use Rattle.code_view.specs.Flow.{in_code, pad_behind}
use Rattle.code_view.specs.FileCode.{FileCode, program_of}
use Rattle.code_view.proofs.Lawful.{code_of}
use Rattle.code_view.proofs.KeptTargets.{end-fits, targets-of-call}
use Rattle.code_view.proofs.Views.{lawful-view}
use Rattle.code_view.proofs.code.CodeChains.landing.Goals as goal

pub overflow_add-a : goal.overflow_add-a
overflow_add-a c =
    let code = c.args.self.now in
    let cuts = cut_of code.cuts in
    let fits = end-fits code.bytes cuts c.args.a c.told_length.ensures.lawful (code_of code.bytes cuts c.args.a (call_at (program_of code) c.args.a c.requires)) in
    omega (arith, fits, c.from.ensures, c.told_length.ensures.length)

pub returns-then-lands_nowhere-clause-landing : goal.returns-then-lands_nowhere-clause-landing
returns-then-lands_nowhere-clause-landing c =
    let code = c.args.self.now in
    let cuts = cut_of code.cuts in
    let a = c.args.a in
    let last = a + (placed_at code.bytes a).length - 1 in
    let none : pad_at code.bytes last ≡ None =
    subst (λ bytes. pad_at bytes last ≡ None) (c.self.invariant.calls ∙ ap (λ (f : FileCode). f.bytes) c.self.view_is) (c.lands_nowhere.ensures c.if-lands_nowhere.true last) in
    targets-of-call code.bytes cuts a (code_of code.bytes cuts a (call_at (program_of code) a c.requires)) c.requires
    ∙ ap (λ pad. option_to_list (option_and_then (in_code code.bytes) pad)) none

pub returns-then-lands_nowhere-clause-lawful : goal.returns-then-lands_nowhere-clause-lawful
returns-then-lands_nowhere-clause-lawful c = lawful-view _ _ c.self.invariant.accepted c.self.invariant.cuts _ c.self.view_is

pub returns-clause-landing : goal.returns-clause-landing
returns-clause-landing c =
    let code = c.args.self.now in
    let cuts = cut_of code.cuts in
    let a = c.args.a in
    targets-of-call code.bytes cuts a (code_of code.bytes cuts a (call_at (program_of code) a c.requires)) c.requires
    ∙ ap (λ n. option_to_list (pad_behind code.bytes (a + n))) (sym (c.from.ensures ∙ c.told_length.ensures.length))
    ∙ ap option_to_list (sym c.pad_behind.ensures)
