use Rattle.std.proofs.Common.{◌≡◌, length, refl, subst, arith}
use Rattle.std.proofs.lemmas.List.Elements.{Contains-get_or}
use Rattle.cert_make.specs.declared.exits.Exit.{Exit}
use Rattle.cert_make.specs.Inner.Offers.{AreFirsts, IsHandedOn, exit_at}
use Rattle.cert_make.proofs.Offered.{handed}
use Rattle.cert_make.proofs.firsts.nearest_to_leads.Goals as goal

abbrev no_exit : Exit
no_exit = record { end = 0; to = 0 }

pub hand_on-requires-clause-end : goal.hand_on-requires-clause-end
hand_on-requires-clause-end c = (c.requires.each (exit_at c.args.exits.now c.loop-i.i) (Contains-get_or c.args.exits.now c.loop-i.i no_exit c.loop-i-test.true)).0

pub hand_on-requires-clause-to : goal.hand_on-requires-clause-to
hand_on-requires-clause-to c =
    let to = (c.requires.each (exit_at c.args.exits.now c.loop-i.i) (Contains-get_or c.args.exits.now c.loop-i.i no_exit c.loop-i-test.true)).1 in
    omega (arith, to, c.loop-i.invariant.long)

pub loop-i-preserved : goal.loop-i-preserved
loop-i-preserved c =
    handed c.args.exits.now c.args.offers.now c.loop-i.i c.args.count c.loop-i.firsts.items c.loop-i.invariant _ c.hand_on.new.firsts.items refl c.hand_on.ensures

pub returns : goal.returns
returns c =
    let last : c.loop-i.i ≡ length c.args.exits.now = omega arith in
    subst (λ n. AreFirsts c.args.count (IsHandedOn c.args.exits.now c.args.offers.now n) c.loop-i.firsts.items) last c.loop-i.invariant
