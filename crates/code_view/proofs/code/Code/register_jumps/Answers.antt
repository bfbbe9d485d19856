use Rattle.std.proofs.Common.{Vec, ℕ, Global}
use Rattle.std.proofs.lemmas.Result.{IfOk-weaker}
use Rattle.code_view.proofs.JumpsFound.{all-jumps, all-tables}
use Rattle.code_view.proofs.code.Code.register_jumps.Goals as goal

pub returns-clause-exact : goal.returns-clause-exact
returns-clause-exact c =
    IfOk-weaker _ _ _ (λ (jumps : Vec ℕ Global) all. all-jumps c.args.self.now.bytes jumps.items all) c.register_jumps_between.ensures.exact

pub returns-clause-tables : goal.returns-clause-tables
returns-clause-tables c = IfOk-weaker _ _ _ (λ (jumps : Vec ℕ Global) found. all-tables c.args.self.now.bytes jumps.items found) c.register_jumps_between.ensures.tables
