use Rattle.std.proofs.Common.{◌≡◌, sym, subst, arith, length, ◌+◌}
use Rattle.std.proofs.lemmas.List.Sorted.{IsNonDecreasingBy-from_sort}
use Rattle.table_cuts.proofs.Found.{HaveBases, bases-none, bases-one, bases-all}
use Rattle.table_cuts.proofs.bases.bases_of.Goals as goal

pub loop-found-init : goal.loop-found-init
loop-found-init c = subst (λ bases. HaveBases c.args.jumps.now bases 0) (sym c.new-bases.ensures.items) (bases-none c.args.jumps.now)

pub loop-found-preserved : goal.loop-found-preserved
loop-found-preserved c =
    let i = c.loop-found.found-index in
    subst (λ bases. HaveBases c.args.jumps.now bases (i + 1)) (sym c.in_ok-push.ensures.items)
    (bases-one c.args.jumps.now c.loop-found.bases.items i _ c.loop-found-test.true c.loop-found.invariant)

pub returns-clause-bases : goal.returns-clause-bases
returns-clause-bases c =
    let all : c.loop-found.found-index ≡ length c.args.jumps.now = omega arith in
    bases-all c.args.jumps.now c.loop-found.bases.items c.sort_unstable.new.self.items c.loop-found.found-index all
    c.sort_unstable.ensures.permutation c.loop-found.invariant

pub returns-clause-sorted : goal.returns-clause-sorted
returns-clause-sorted c = IsNonDecreasingBy-from_sort (λ b. b) c.sort_unstable.new.self.items c.sort_unstable.ensures.sorted
