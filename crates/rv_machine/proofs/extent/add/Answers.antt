use Rattle.std.proofs.Common.{◌++◌, option_to_list, ap, ◌∙◌, arith}
use Rattle.rv_machine.proofs.Apart.{apart-joined, apart-pushed, last-starts}
use Rattle.rv_machine.proofs.extent.add.Goals as goal

pub returns-in_ok-push-in-Some-clause-apart : goal.returns-in_ok-push-in-Some-clause-apart
returns-in_ok-push-in-Some-clause-apart c =
    apart-joined c.args.united.now.items c.pop.new.self.items c.push-in-Some.new.self.items c.in-Some.last c.joined.result c.requires.apart
    (c.pop.ensures.items ∙ ap (λ o. c.pop.new.self.items ++ option_to_list o) c.in-Some.is) c.in_ok-push-in-Some.ensures.items c.joined.ensures.start

pub returns-in_ok-push-in-Some-2-2-clause-apart : goal.returns-in_ok-push-in-Some-2-2-clause-apart
returns-in_ok-push-in-Some-2-2-clause-apart c =
    let was = c.pop.ensures.items ∙ ap (λ o. c.pop.new.self.items ++ option_to_list o) c.in-Some.is in
    apart-pushed c.args.united.now.items c.pop.new.self.items c.push-in-Some-2.new.self.items c.push-in-Some-2-2.new.self.items c.in-Some.last c.args.next c.requires.apart
    was c.in_ok-push-in-Some-2.ensures.items c.in_ok-push-in-Some-2-2.ensures.items
    (last-starts c.args.united.now.items c.pop.new.self.items c.in-Some.last c.args.next.start was c.requires.start) (omega (arith, c.if-next-last.false))
