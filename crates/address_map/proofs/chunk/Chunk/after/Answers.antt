use Rattle.std.proofs.Common.{arith}
use Rattle.address_map.proofs.EntriesKept.{found_in_page, past_page, past_pages, page_inside}
use Rattle.address_map.proofs.chunk.Chunk.after.Goals as goal

pub loop-page-init : goal.loop-page-init
loop-page-init g c = c.requires.ahead

pub returns-in-Some : goal.returns-in-Some
returns-in-Some g c = found_in_page c.args.self.now c.args.a c.requires.together c.loop-page.page c.loop-page.invariant c.in-Some.k c.in-Some.ensures

pub loop-page-preserved : goal.loop-page-preserved
loop-page-preserved g c = past_page c.args.self.now c.args.a c.loop-page.page c.loop-page.invariant c.in_default.ensures

pub returns : goal.returns
returns g c =
    past_pages c.args.self.now c.args.a c.loop-page.page c.loop-page.invariant
    (λ x has. omega (arith, page_inside _ _ c.self.invariant c.args.self.now c.self.view_is x has, c.loop-page-test.false, c.len-page-end.ensures, c.self.inside.upto.ok.0))
