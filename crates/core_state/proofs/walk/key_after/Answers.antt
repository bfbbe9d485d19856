use Rattle.std.proofs.Common.{◌≡◌, sym, ◌∙◌, arith}
use Rattle.core_state.proofs.Walks.{walk_start, walks_on, walk_end, found_first, line_below, shard_at}
use Rattle.core_state.proofs.walk.key_after.Goals as goal

pub loop-j-init : goal.loop-j-init
loop-j-init g c = walk_start g.S.Keys.has _ _ _ (line_below c.args.a _ c.line_of-line.ensures.line)

pub returns-then-lies_in : goal.returns-then-lies_in
returns-then-lies_in g c =
    found_first g.S.Keys.has _ c.requires.own _ _ _ _ (shard_at _ c.requires.count _ _ c.index-shards-line.is) _ _ c.loop-j.invariant c.after-key.ensures
    (sym c.lies_in.ensures ∙ c.if-lies_in.true)

pub loop-j-preserved : goal.loop-j-preserved
loop-j-preserved g c =
    rw c.lesser-least.ensures
    (walks_on g.S.Keys.has _ c.requires.own _ _ _ _ (shard_at _ c.requires.count _ _ c.index-shards-line.is) _ _ c.loop-j.invariant c.after-key.ensures
    (sym c.lies_in.ensures ∙ c.if-lies_in.false))

pub returns : goal.returns
returns g c =
    let last : c.loop-j.j ≡ 64 = omega arith in
    walk_end g.S.Keys.has _ _ _ _ _ last c.loop-j.invariant
