use Rattle.cfg_model.specs.Program.Status.{Returns}
use Rattle.cert_ends.proofs.OneByOne.{refuted}
use Rattle.cert_make.proofs.Offering.{call_falls, call_stays}
use Rattle.cert_make.proofs.exits.add_call.Goals as goal

pub returns-in_ok-push-2 : goal.returns-in_ok-push-2
returns-in_ok-push-2 g c =
    let map = g.C.Chains.map c.args.code.now in
    call_falls c.args.targets.now.items c.push.new.self.items c.push-then-has.new.self.items c.args.target c.in-Some.fall c.args.fall (Returns map c.args.target)
    c.in_ok-push.ensures.items c.in_ok-push-2.ensures.items c.in-Some.is
    ((c.requires.tell c.in-Some.fall c.term.result c.in-Some.is c.term.ensures.term).0 (c.has.ensures.0 c.if-has.true))

pub returns-else-has : goal.returns-else-has
returns-else-has g c =
    let map = g.C.Chains.map c.args.code.now in
    call_stays c.args.targets.now.items c.push.new.self.items c.args.target c.args.fall (Returns map c.args.target) c.in_ok-push.ensures.items
    (λ a is back. refuted _ c.has.result c.if-has.false c.has.ensures ((c.requires.tell a c.term.result is c.term.ensures.term).1 back))
