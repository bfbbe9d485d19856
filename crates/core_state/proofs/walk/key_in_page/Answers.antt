use Rattle.std.proofs.Common.{Some, subst, sym}
use Rattle.core_state.specs.Least.{IsLeast, IsAbove}
use Rattle.core_state.specs.inner.Walk.{IsKey}
use Rattle.core_state.proofs.InPage.{past_none, first_in_page, past_more}
use Rattle.core_state.proofs.Walks.{shard_at}
use Rattle.core_state.proofs.walk.key_in_page.Goals as goal

pub loop-j-init : goal.loop-j-init
loop-j-init g c = past_none g.S.Keys.has _ _

pub returns-in-Some : goal.returns-in-Some
returns-in-Some g c =
    subst (λ o. IsLeast (λ k. IsKey g.S.Keys.has c.args.shards.now k × IsAbove o k) (Some c.in-Some.key)) (sym c.in_ok-a.was)
    (first_in_page g.S.Keys.has _ c.requires.own _ _ c.loop-j-test.true _ (shard_at _ c.requires.count _ _ c.index-shards-line.is) c.loop-j.invariant c.in-Some.key c.in-Some.ensures)

pub loop-j-preserved : goal.loop-j-preserved
loop-j-preserved g c =
    past_more g.S.Keys.has _ c.requires.own _ _ c.loop-j-test.true _ (shard_at _ c.requires.count _ _ c.index-shards-line.is) c.loop-j.invariant c.in_default.ensures
