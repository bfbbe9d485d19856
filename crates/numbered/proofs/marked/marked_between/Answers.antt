use Rattle.std.proofs.Common.{◌+◌, sym, ap, subst, inl, inr, arith}
use Rattle.numbered.proofs.Listing.{AreListed, listed_between, listing_skips, listing_takes}
use Rattle.numbered.proofs.marked.marked_between.Goals as goal
use Rattle.numbered.proofs.marked.marked_between.Goals.{in-Some+in_ok-push, in_default}

pub loop-n-preserved : goal.loop-n-preserved
loop-n-preserved g c =
    let map = g.C.Chains.map c.args.code.now in
    let number = g.C.Numbered.number c.args.code.now in
    let marks = c.args.marks.now in
    let from = c.args.from in
    let n = c.loop-n.n in
    let items = c.loop-n.addresses.items in
    record {
      up = omega (arith, c.loop-n.invariant.up);
      low = inl (omega (arith, c.loop-n-test.true));
      listed = elim c.match-marked_at.branch [
        | in-Some+in_ok-push w ↦
            subst (AreListed map number marks from (n + 1)) (sym (ap (λ v. v.items) w.addresses-is))
            (subst (AreListed map number marks from (n + 1)) (sym w.in_ok-push.ensures.items)
            (listing_takes map number marks from n items c.loop-n.invariant.listed _ c.numbers.ensures.numbers c.numbers.ensures.rise c.loop-n.invariant.up w.in-Some.a w.in-Some.ensures))
        | in_default w ↦
            subst (AreListed map number marks from (n + 1)) (sym (ap (λ v. v.items) w.addresses-is))
            (listing_skips map number marks from n items c.loop-n.invariant.listed w.in_default.ensures)
      ];
    }

pub returns-clause-exact : goal.returns-clause-exact
returns-clause-exact g c =
    let n = c.loop-n.n in
    listed_between (g.C.Chains.map c.args.code.now) (g.C.Numbered.number c.args.code.now) c.args.marks.now c.args.from n c.loop-n.addresses.items c.loop-n.invariant.listed c.numbers.result c.args.until
    c.numbers.ensures.numbers (λ k low within few. omega (arith, low, within, few, c.loop-n-test.false, c.min.ensures, c.min-end.ensures))
    (elim c.loop-n.invariant.low [
      | inl most ↦ inl (omega (arith, most, c.min.ensures, c.min-end.ensures))
      | inr none ↦ inr none
    ])
