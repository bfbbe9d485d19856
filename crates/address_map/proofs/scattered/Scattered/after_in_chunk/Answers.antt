use Rattle.std.proofs.Common.{sym, ap, subst, ◌∙◌, ◌≤◌}
use Rattle.std.specs.Prelude.{None}
use Rattle.std.specs.Option.{option_copied}
use Rattle.address_map.specs.Least.{IsLeast}
use Rattle.address_map.specs.inner.Grouped.{page_of, IsNextInChunk}
use Rattle.address_map.proofs.KeysAfter.{together, number_is, page_rises, next_in_chunk, no_next}
use Rattle.address_map.proofs.scattered.Scattered.after_in_chunk.Goals as goal

pub returns-in_err-a : goal.returns-in_err-a
returns-in_err-a g c =
    subst (λ o. IsLeast (IsNextInChunk c.args.self.now c.args.a) o) (sym c.from_residual.ensures)
    (subst (λ a. IsLeast (IsNextInChunk c.args.self.now a) None) (sym c.in_err-a.was) (λ x never. never))

pub after-requires-clause-together : goal.after-requires-clause-together
after-requires-clause-together g c = together c.self.inside.chunks.entries c.args.self.now c.self.view_is c.self.invariant.0 c.self.invariant.1 c.chunk.result c.in-Some.chunk.now (sym c.get.ensures.value ∙ ap option_copied c.in-Some.is)

pub after-requires-clause-ahead : goal.after-requires-clause-ahead
after-requires-clause-ahead g c =
    λ x h. subst (λ page. page ≤ page_of x) (sym c.page.ensures)
    (page_rises c.in_ok-a.a x (number_is c.self.inside.chunks.entries c.args.self.now c.self.view_is c.self.invariant.0 c.self.invariant.1 c.chunk.result c.in-Some.chunk.now (sym c.get.ensures.value ∙ ap option_copied c.in-Some.is) x h.0 ∙ c.chunk.ensures) h.1)

pub returns-in-Some : goal.returns-in-Some
returns-in-Some g c =
    subst (λ a. IsLeast (IsNextInChunk c.args.self.now a) c.after.result) (sym c.in_ok-a.was)
    (next_in_chunk c.self.inside.chunks.entries c.args.self.now c.self.view_is c.self.invariant.0 c.self.invariant.1 c.chunk.result c.in-Some.chunk.now (sym c.get.ensures.value ∙ ap option_copied c.in-Some.is) c.in_ok-a.a c.chunk.ensures c.after.result c.after.ensures)

pub returns-in-None : goal.returns-in-None
returns-in-None g c =
    subst (λ a. IsLeast (IsNextInChunk c.args.self.now a) None) (sym c.in_ok-a.was)
    (no_next c.self.inside.chunks.entries c.args.self.now c.self.view_is c.self.invariant.0 c.self.invariant.1 c.chunk.result (sym c.get.ensures.value ∙ ap option_copied c.in-None.is) c.in_ok-a.a c.chunk.ensures)
