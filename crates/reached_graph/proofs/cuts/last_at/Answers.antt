use Rattle.numbered.specs.Numbering.{IsMarked}
use Rattle.reached_graph.proofs.Apart.{last_at}
use Rattle.reached_graph.proofs.cuts.last_at.Goals as goal

pub returns-in-Some : goal.returns-in-Some
returns-in-Some g c =
    let map = g.C.Chains.map c.args.code.now in
    let number = g.C.Numbered.number c.args.code.now in
    last_at map c.requires.lawful (IsMarked map number c.args.marks.now) c.args.s c.in-Some.last c.args.next c.requires.next c.in-Some.ensures
