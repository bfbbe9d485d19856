use Rattle.std.proofs.Common.{◌≡◌, ◌<◌, true, false, get_or, set, length, refl, sym, ap, ◌∙◌}
use Rattle.std.proofs.lemmas.List.{get_or_default}
use Rattle.reached_terms.proofs.Arrivals.{arrive-step}
use Rattle.reached_terms.proofs.Complete.{ends_stand}
use Rattle.reached_terms.proofs.marks.Marks.reach.Goals as goal

pub returns-in_ok-push-clause-step : goal.returns-in_ok-push-clause-step
returns-in_ok-push-clause-step g c =
    let map = g.C.Chains.map c.args.code.now in
    let number = g.C.Numbered.number c.args.code.now in
    let k = c.args.k in
    let old = c.args.self.now in
    let n_is : c.args.n ≡ number k = c.requires.number in
    let has = ends_stand (map k) c.requires.ends.ends in
    let within : number k < length old.reached.items = c.requires.kept.numbering.below k has in
    let off : get_or old.reached.items (number k) true ≡ false =
    get_or_default old.reached.items (number k) true c.index.result.now within
    ∙ sym (ap (λ i. get_or old.reached.items i c.index.result.now) n_is)
    ∙ sym c.index.ensures ∙ c.if-not-index.true in
    arrive-step map number c.args.a k old _ c.requires.kept c.requires.ends has off
    (ap (λ i. set old.reached.items i true) n_is) c.in_ok-push.ensures.items refl refl refl refl refl
