use Rattle.std.proofs.Common.{◌∙◌, ap, subst}
use Rattle.elf_image.specs.Faults.{IsImage}
use Rattle.code_view.specs.FileCode.{FileCode}
use Rattle.code_view.proofs.Views.{lawful-view}
use Rattle.code_view.proofs.code.Code.index.Goals as goal

pub returns-clause-index : goal.returns-clause-index
returns-clause-index c = c.self.invariant.index ∙ ap (λ (f : FileCode). f.bytes) c.self.view_is

pub returns-clause-accepted : goal.returns-clause-accepted
returns-clause-accepted c = subst IsImage (ap (λ (f : FileCode). f.bytes) c.self.view_is) c.self.invariant.accepted

pub returns-clause-lawful : goal.returns-clause-lawful
returns-clause-lawful c = lawful-view _ _ c.self.invariant.accepted c.self.invariant.cuts _ c.self.view_is
