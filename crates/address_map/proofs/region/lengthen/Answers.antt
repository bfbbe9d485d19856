use Rattle.std.proofs.Common.{[], ◌∷◌, ◌++◌, ap, ◌∙◌, get_or, arith}
use Rattle.std.specs.FinMap as maps
use Rattle.address_map.proofs.PartsJoined.{padded}
use Rattle.address_map.proofs.region.lengthen.Goals as goal

pub loop-place-preserved : goal.loop-place-preserved
loop-place-preserved g c = (
  λ i. ap (λ xs. get_or xs i maps.empty) (c.in_ok-push.ensures.items ∙ ap (λ m. c.loop-place.chunks.items ++ m ∷ []) c.new.ensures) ∙ padded _ i ∙ c.loop-place.invariant.0 i,
  omega (arith, c.in_ok-push.ensures.len, c.push.new.self.ok.0, c.loop-place.chunks.ok.0, c.loop-place.invariant.1),
)

pub returns-in_err-push-clause-same : goal.returns-in_err-push-clause-same
returns-in_err-push-clause-same g c = λ i. ap (λ xs. get_or xs i maps.empty) c.in_err-push.ensures.items ∙ c.loop-place.invariant.0 i

pub returns-clause-same : goal.returns-clause-same
returns-clause-same g c = c.loop-place.invariant.0

pub returns-clause-all : goal.returns-clause-all
returns-clause-all g c = omega (arith, c.loop-place-test.false, c.loop-place.invariant.1)
