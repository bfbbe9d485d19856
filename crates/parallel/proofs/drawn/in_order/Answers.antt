use Rattle.std.proofs.Common.{rules, ◌≡◌, ℕ, length, take, drop, ◌++◌, sym, ap, ◌∙◌, subst}
use Rattle.std.specs.List.{All}
use Rattle.std.proofs.lemmas.List.Elements.{All-rest}
use Rattle.parallel.specs.Inner.Drawn.{IsResultBelow, ArePlaced}
use Rattle.parallel.proofs.Placed.{first_of, all_written}
use Rattle.parallel.proofs.drawn.in_order.Goals as goal

pub fill-requires-clause-made : goal.fill-requires-clause-made
fill-requires-clause-made g c =
    let P = IsResultBelow g.F.Fn c.args.f.now in
    subst (λ (n : ℕ). All (P n) c.in-Some.list.items) (sym (ap length c.deref_mut.ensures.value ∙ c.loop-list.invariant.len))
    (first_of (λ list. All (P c.args.count) list.items) c.in-Some.list c.next.new.self.rest.items c.loop-list.list-iterator.rest.items
    c.in-Some.ensures.steps.0 c.loop-list.invariant.left)

pub loop-list-preserved : goal.loop-list-preserved
loop-list-preserved g c =
    let old = c.loop-list.places in
    let new = c.fill.new.places in
    let long : length new ≡ length old.items = c.fill.ensures.len ∙ ap length c.deref_mut.ensures.value in
    let all : take old.len (new ++ drop (length new) old.items) ≡ new = all_written old.len new old.items (search rules) in
    record {
      len = ap length all ∙ (long ∙ c.loop-list.invariant.len);
      placed = subst (ArePlaced g.F.Fn c.args.f.now) (sym all) c.fill.ensures.placed;
      left = All-rest (λ list. All (IsResultBelow g.F.Fn c.args.f.now c.args.count) list.items) c.in-Some.list c.next.new.self.rest.items c.loop-list.list-iterator.rest.items
          c.in-Some.ensures.steps.0 c.loop-list.invariant.left;
    }
