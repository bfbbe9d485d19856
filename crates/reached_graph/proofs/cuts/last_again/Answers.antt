use Rattle.std.proofs.Common.{◌≡◌, ℕ, Option, Some, None, sym, ◌∙◌, arith}
use Rattle.std.proofs.lemmas.Option.{same_Some}
use Rattle.numbered.specs.Numbering.{IsMarked}
use Rattle.reached_graph.proofs.Apart.{stays_at}
use Rattle.reached_graph.proofs.cuts.last_again.Goals as goal

pub returns-in_default : goal.returns-in_default
returns-in_default g c =
    let map = g.C.Chains.map c.args.code.now in
    let number = g.C.Numbered.number c.args.code.now in
    let was = c.requires.before in
    stays_at map c.requires.lawful (IsMarked map number c.args.marks.now) (IsMarked map number was.given) was.more c.args.s c.args.before c.args.next c.requires.next was.last
    (λ t is. omega (arith, c.if-start-before.false, same_Some c.in-Some.start t (sym c.in-Some.is ∙ is)))

pub returns-in_default-2 : goal.returns-in_default-2
returns-in_default-2 g c =
    let map = g.C.Chains.map c.args.code.now in
    let number = g.C.Numbered.number c.args.code.now in
    let was = c.requires.before in
    stays_at map c.requires.lawful (IsMarked map number c.args.marks.now) (IsMarked map number was.given) was.more c.args.s c.args.before c.args.next c.requires.next was.last
    (λ t is. let none : ◌≡◌ {A = Option ℕ} None (Some t) = sym c.in_default.is ∙ is in absurd (cc))
