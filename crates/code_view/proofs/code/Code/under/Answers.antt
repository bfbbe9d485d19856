use Rattle.std.proofs.Common.{ap, sym, subst}
use Rattle.code_view.specs.Cuts.{cut_of, CutsFit}
use Rattle.code_view.specs.FileCode.{FileCode}
use Rattle.code_view.proofs.code.Code.under.Goals as goal

pub invariant_of-result : goal.invariant_of-result
invariant_of-result c = record {
  accepted = c.self.invariant.accepted;
  cuts = subst (λ bytes. CutsFit bytes (cut_of c.args.cuts.now)) (sym (ap (λ (f : FileCode). f.bytes) c.self.view_is)) c.requires.cuts;
  index = c.self.invariant.index;
  calls = c.self.invariant.calls;
  tables = c.self.invariant.tables;
}
