use Rattle.std.specs.Prelude.{IfSome, IsSome, All}
use Rattle.std.proofs.lemmas.Result.{on_ok_weaker}
use Rattle.cfg_model.specs.Program.Instructions.{targets_at}
use Rattle.cfg_model.proofs.Program.Landing.{call_at}
use Rattle.reached_terms.specs.Inner.Marks.{IsLed, LeadsOn}
use Rattle.reached_terms.proofs.Growth.{step-given}
use Rattle.reached_terms.proofs.Leading.{targets_known, pad_of, of_pad}
use Rattle.reached_terms.proofs.marks.Marks.land.Goals as goal

pub lead_any-requires-clause-has : goal.lead_any-requires-clause-has
lead_any-requires-clause-has g c κs within =
    let map = g.C.Chains.map c.args.code.now in
    pad_of (λ a. IsSome (map a)) c.landing.result (targets_at map c.args.k) c.landing.ensures.landing
    (targets_known map c.landing.ensures.lawful c.args.k (call_at map c.args.k c.requires.calls))

pub returns-clause-step : goal.returns-clause-step
returns-clause-step g c =
    let map = g.C.Chains.map c.args.code.now in
    let number = g.C.Numbered.number c.args.code.now in
    let n = c.args.n in
    on_ok_weaker c.lead_any.result
    (λ step. step-given map number _ (λ seeds. All (LeadsOn map number seeds n) (targets_at map c.args.k)) c.args.self.now c.lead_any.new.self step
    (λ seeds right given. pad_of (LeadsOn map number seeds n) c.landing.result (targets_at map c.args.k) c.landing.ensures.landing given))
    c.lead_any.ensures.step

pub returns-clause-led : goal.returns-clause-led
returns-clause-led g c =
    let map = g.C.Chains.map c.args.code.now in
    let number = g.C.Numbered.number c.args.code.now in
    on_ok_weaker c.lead_any.result
    (λ led. of_pad (IsLed map number c.lead_any.new.self c.args.n) c.landing.result (targets_at map c.args.k) c.landing.ensures.landing led)
    c.lead_any.ensures.led
