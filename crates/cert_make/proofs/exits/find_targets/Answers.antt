use Rattle.cert_make.proofs.Offering.{call_of, call_goes, plain_goes}
use Rattle.cert_make.proofs.exits.find_targets.Goals as goal

pub add_call-requires-clause-tell : goal.add_call-requires-clause-tell
add_call-requires-clause-tell g c κs within = λ to end falls ends.
    c.requires.tell c.in-Call.target to end (call_of (g.C.Chains.map c.args.code.now) c.args.k c.in-Call.target to c.in-Call.fall c.args.flow c.requires.flow c.in-Call.is falls) ends

pub returns-in_ok-add_call-in-Call : goal.returns-in_ok-add_call-in-Call
returns-in_ok-add_call-in-Call g c =
    call_goes (g.C.Chains.map c.args.code.now) c.args.k c.in-Call.target c.in-Call.fall c.args.flow c.find_successors.new.successors.items c.add_call.new.targets.items
    c.requires.flow c.in-Call.is c.in_ok-find_successors.ensures c.in_ok-add_call-in-Call.ensures

pub returns-in_default : goal.returns-in_default
returns-in_default g c =
    plain_goes (g.C.Chains.map c.args.code.now) c.args.k c.args.flow c.find_successors.new.successors.items c.requires.flow c.in_default.not-Call c.in_ok-find_successors.ensures
