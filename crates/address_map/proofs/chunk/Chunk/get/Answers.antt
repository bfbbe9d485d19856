use Rattle.std.proofs.Common.{sym, ap, ◌∙◌, arith}
use Rattle.std.specs.Ordering.{nat_cmp}
use Rattle.std.specs.FinMap.{find}
use Rattle.address_map.specs.inner.Entries.{pairs}
use Rattle.address_map.proofs.PairsKept.{row_has}
use Rattle.address_map.proofs.EntriesKept.{first_there, place_inside, entry_value}
use Rattle.address_map.proofs.chunk.Chunk.get.Goals as goal

pub index-requires : goal.index-requires
index-requires g c =
    let first = first_there _ _ c.as_slice-2.ensures.value c.args.k _ c.place_in_page.ensures.some _ c.in-Some.is in
    omega (arith, place_inside _ _ c.self.invariant c.args.self.now c.self.view_is c.args.k c.in-Some.place first, c.self.inside.entries.ok.0)

pub returns-in-Some : goal.returns-in-Some
returns-in-Some g c =
    sym (entry_value _ _ c.self.invariant c.args.self.now c.self.view_is c.args.k c.in-Some.place
    (first_there _ _ c.as_slice-2.ensures.value c.args.k _ c.place_in_page.ensures.some _ c.in-Some.is) c.index.result.now c.index.ensures)

pub returns-in-None : goal.returns-in-None
returns-in-None g c =
    sym (sym (row_has _ _ c.self.view_is c.args.k) ∙ ap (λ es. find nat_cmp c.args.k (pairs es)) (sym c.as_slice-2.ensures.value) ∙ c.in-None.ensures.none)
