use Rattle.std.proofs.Common.{Vec, ℕ, Global, ap, subst}
use Rattle.std.specs.Prelude.{IfOk}
use Rattle.std.proofs.lemmas.Result.{IfOk-weaker}
use Rattle.code_view.specs.FileCode.{FileCode}
use Rattle.code_view.specs.RegisterJump.{AreRegisterJumpsBetween}
use Rattle.code_view.proofs.JumpsFound.{table-found, jumps-code}
use Rattle.code_view.proofs.code.Code.register_jumps_between.Goals as goal
use Rattle.code_view.proofs.code.Code.register_jumps_between.Goals.{After-register_jumps_between}

-- they are those of the file that is kept
exact : (c : After-register_jumps_between) → IfOk c.register_jumps_between.result (λ jumps. AreRegisterJumpsBetween c.args.self.now.bytes c.args.after c.args.last jumps.items)
exact c =
    subst (λ bytes. IfOk c.register_jumps_between.result (λ jumps. AreRegisterJumpsBetween bytes c.args.after c.args.last jumps.items)) (ap (λ (f : FileCode). f.bytes) c.self.view_is)
    c.register_jumps_between.ensures

pub returns-clause-exact : goal.returns-clause-exact
returns-clause-exact c = exact c

pub returns-clause-tables : goal.returns-clause-tables
returns-clause-tables c = IfOk-weaker _ _ _ (λ (jumps : Vec ℕ Global) all. table-found c.args.self.now.bytes c.args.after c.args.last jumps.items all) (exact c)

pub returns-clause-code : goal.returns-clause-code
returns-clause-code c = IfOk-weaker _ _ _ (λ (jumps : Vec ℕ Global) all. jumps-code c.args.self.now.bytes c.args.after c.args.last jumps.items all) (exact c)
