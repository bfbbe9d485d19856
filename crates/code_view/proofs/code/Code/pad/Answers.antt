use Rattle.std.proofs.Common.{subst}
use Rattle.cfg_model.specs.Program.Successors.{Calls}
use Rattle.code_view.specs.Cuts.{cut_of}
use Rattle.code_view.proofs.KeptTargets.{targets-of-none, no-call}
use Rattle.code_view.proofs.code.Code.pad.Goals as goal

pub returns-in_default : goal.returns-in_default
returns-in_default c =
    let code = c.args.self.now in
    targets-of-none code.bytes (cut_of code.cuts) c.args.a c.requires.code c.requires.table
    (λ calls. no-call c.flow.result c.in_default.not-Call c.in_default.not-IndirectCall (subst Calls c.flow.ensures.flow calls))
