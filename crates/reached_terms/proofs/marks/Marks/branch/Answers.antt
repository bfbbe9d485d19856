use Rattle.std.proofs.Common.{ℕ, List, sym, subst}
use Rattle.std.specs.Prelude.{IfSome}
use Rattle.std.proofs.lemmas.Result.{on_ok_weaker}
use Rattle.reached_terms.specs.Inner.Marks.{AreKept, IsCutOff, LeadsOn, ReturnsBy}
use Rattle.reached_terms.specs.Inner.Steps.{Step}
use Rattle.reached_terms.proofs.Growth.{step-none, step-on, step-given, led_any-grow}
use Rattle.reached_terms.proofs.Changes.{mark-step}
use Rattle.reached_terms.proofs.marks.Marks.branch.Goals as goal
use Rattle.reached_terms.proofs.marks.Marks.branch.Goals.{then-is_cut_off+in_ok-mark, else-is_cut_off}

pub lead_any-requires-clause-kept : goal.lead_any-requires-clause-kept
lead_any-requires-clause-kept g c κs within =
    let map = g.C.Chains.map c.args.code.now in
    let number = g.C.Numbered.number c.args.code.now in
    elim c.if-is_cut_off.branch [
      | then-is_cut_off+in_ok-mark w ↦ subst (AreKept map number) (sym w.self-is) (mark-step map number c.args.n c.args.self.now w.mark.new.self c.requires.kept c.requires.number w.in_ok-mark.ensures).kept
      | else-is_cut_off w ↦ subst (AreKept map number) (sym w.self-is) c.requires.kept
    ]

pub returns-clause-step : goal.returns-clause-step
returns-clause-step g c =
    let map = g.C.Chains.map c.args.code.now in
    let number = g.C.Numbered.number c.args.code.now in
    let n = c.args.n in
    let taken = c.args.taken in
    let fall = c.args.fall in
    let old = c.args.self.now in
    let marked = c.if-is_cut_off.self in
    let mid = c.lead_any.new.self in
    let Itself : List ℕ → Type 0 = λ seeds. IsCutOff taken fall → ReturnsBy map number n in
    let Taken : List ℕ → Type 0 = λ seeds. IfSome taken (LeadsOn map number seeds n) in
    let Fall : List ℕ → Type 0 = λ seeds. IfSome fall (LeadsOn map number seeds n) in
    let All : List ℕ → Type 0 = λ seeds. Taken seeds × Fall seeds × Itself seeds in
    let first : Step map number Itself old marked = elim c.if-is_cut_off.branch [
      | then-is_cut_off+in_ok-mark w ↦
          subst (λ m. Step map number Itself old m) (sym w.self-is)
          (step-given map number (λ seeds. ReturnsBy map number n) Itself old w.mark.new.self (mark-step map number n old w.mark.new.self c.requires.kept c.requires.number w.in_ok-mark.ensures)
          (λ seeds right given. given (c.is_cut_off.ensures.0 w.if-is_cut_off.true)))
      | else-is_cut_off w ↦ subst (λ m. Step map number Itself old m) (sym w.self-is) (step-none map number Itself old c.requires.kept)
    ] in
    let second : Step map number All old mid = step-on map number Itself Taken All old marked mid first c.in_ok-lead_any.ensures.step (λ seeds right given. given.2) (λ seeds right given. given.0) in
    on_ok_weaker c.lead_any-2.result
    (λ step. step-on map number All Fall All old mid c.lead_any-2.new.self second step (λ seeds right given. given) (λ seeds right given. given.1))
    c.lead_any-2.ensures.step

pub returns-clause-taken : goal.returns-clause-taken
returns-clause-taken g c = on_ok_weaker c.lead_any-2.result
    (λ step. led_any-grow (g.C.Chains.map c.args.code.now) (g.C.Numbered.number c.args.code.now) c.lead_any.new.self c.lead_any-2.new.self step.grow c.args.n c.args.taken c.in_ok-lead_any.ensures.led)
    c.lead_any-2.ensures.step
