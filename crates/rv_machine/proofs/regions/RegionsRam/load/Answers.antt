use Rattle.std.proofs.Common.{List, sym, ap, ◌∙◌}
use Rattle.std.specs.List.{position}
use Rattle.rv_machine.specs.declared.part.Part.{Part}
use Rattle.rv_machine.specs.Inner.Parts.{has_address, part_bytes}
use Rattle.rv_machine.proofs.FirstParts.{found-none, found-has, found-at}
use Rattle.rv_machine.proofs.regions.RegionsRam.load.Goals as goal

pub returns-in_err-i : goal.returns-in_err-i
returns-in_err-i c =
    let parts = ap (λ (ps : List Part). position (has_address c.args.a) ps) (sym c.deref.ensures.value) in
    c.from_residual.ensures
    ∙ sym (found-none c.args.a c.args.self.now.parts.items (parts ∙ sym c.first_with.ensures ∙ c.in_err-i.was))

pub load-requires : goal.load-requires
load-requires c =
    let parts = ap (λ (ps : List Part). position (has_address c.args.a) ps) (sym c.deref.ensures.value) in
    let d = c.index.result.now in
    ap (has_address c.args.a) c.index.ensures
    ∙ found-has c.args.a c.args.self.now.parts.items c.in_ok-i.i d (parts ∙ sym c.first_with.ensures ∙ c.in_ok-i.was)

pub returns : goal.returns
returns c =
    let parts = ap (λ (ps : List Part). position (has_address c.args.a) ps) (sym c.deref.ensures.value) in
    let d = c.index.result.now in
    sym c.load.ensures ∙ ap (λ (p : Part). part_bytes p c.args.a) c.index.ensures
    ∙ sym (found-at c.args.a c.args.self.now.parts.items c.in_ok-i.i d (parts ∙ sym c.first_with.ensures ∙ c.in_ok-i.was))
