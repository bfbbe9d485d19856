use Rattle.std.proofs.Common.{◌≡◌, ◌-◌, ◌<◌, ℕ, suc, length, sym, ◌∙◌, subst, arith}
use Rattle.std.proofs.lemmas.List.{get_or_default}
use Rattle.reached_terms.specs.Inner.Marks.{IsLast}
use Rattle.reached_terms.proofs.Changes.{number_below}
use Rattle.reached_terms.proofs.Telling.{telling-begins, telling-on}
use Rattle.reached_terms.proofs.marks.Marks.notify.Goals as goal

pub loop-at-init : goal.loop-at-init
loop-at-init g c =
    let map = g.C.Chains.map c.args.code.now in
    let number = g.C.Numbered.number c.args.code.now in
    let n = c.args.n in
    let old = c.args.self.now in
    let at = c.index-at.result.now in
    telling-begins map number n old c.requires.kept at
    (subst (λ a. IsLast old.ways.items n (length old.ways.items) a) (sym c.index-at.ensures)
    (c.requires.kept.last n at (number_below map number old c.requires.kept n c.requires.number)))

pub loop-at-preserved : goal.loop-at-preserved
loop-at-preserved g c =
    let map = g.C.Chains.map c.args.code.now in
    let number = g.C.Numbered.number c.args.code.now in
    let now = c.loop-at.self in
    let at = c.loop-at.at in
    let p : ℕ = at - 1 in
    let way = c.index-way.result.now in
    let at_is : at ≡ suc p = omega arith in
    let within : p < length now.ways.items = omega (arith, c.loop-at.invariant.within) in
    telling-on map number c.args.n c.args.self.now now c.pass.new.self p at way at_is
    (λ d. get_or_default now.ways.items p d way within ∙ sym c.index-way.ensures)
    c.loop-at.invariant c.in_ok-pass.ensures.step c.in_ok-pass.ensures.done
