use Rattle.std.proofs.Common.{◌≡◌, ◌∙◌, length, sym, ap, subst, arith}
use Rattle.std.proofs.lemmas.List.{get_or_default}
use Rattle.cert_text.specs.declared.lines.LeadLine.{LeadLine}
use Rattle.cert_ends.proofs.Placed.{no_lead}
use Rattle.cert_make.specs.Inner.Offers.{AreFirsts, IsOwnOffer}
use Rattle.cert_make.proofs.Offered.{own_more}
use Rattle.cert_make.proofs.firsts.nearest_to_ends.Goals as goal

pub loop-i-preserved : goal.loop-i-preserved
loop-i-preserved c =
    let lines = c.args.lines.now in
    let i = c.loop-i.i in
    own_more lines c.args.ends.now.of.items i c.index.result.now _ (length c.args.ends.now.terms.items) c.loop-i.firsts.items c.take_offer.new.offers.items
    (get_or_default c.args.ends.now.of.items i 0 c.index.result.now (omega (arith, c.loop-i-test.true, c.requires.as_many)) ∙ sym c.index.ensures)
    (λ d. ap (λ (l : LeadLine). l.rank) (get_or_default lines i no_lead d c.loop-i-test.true))
    (λ d. ap (λ (l : LeadLine). l.at) (get_or_default lines i no_lead d c.loop-i-test.true))
    c.loop-i.invariant c.take_offer.ensures

pub returns : goal.returns
returns c =
    let last : c.loop-i.i ≡ length c.args.lines.now = omega arith in
    subst (λ n. AreFirsts (length c.args.ends.now.terms.items) (IsOwnOffer c.args.lines.now c.args.ends.now.of.items n) c.loop-i.firsts.items) last c.loop-i.invariant
