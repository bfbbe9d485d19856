use Rattle.std.proofs.Common.{sym, ap, ◌∙◌, ◌<◌, length, arith}
use Rattle.std.specs.Prelude.{not}
use Rattle.std.specs.FinMap as maps
use Rattle.std.proofs.lemmas.List.{get_or_default}
use Rattle.address_map.specs.inner.Entries.{pairs}
use Rattle.address_map.proofs.PairsKept.{not_in_row, added_known}
use Rattle.address_map.proofs.EntriesKept.{known_there, none_there, same_linked, more_linked, more_seen}
use Rattle.address_map.proofs.chunk.Chunk.add.Goals as goal

pub returns-then-is_some-clause-added : goal.returns-then-is_some-clause-added
returns-then-is_some-clause-added g c =
    added_known c.args.self.now c.args.k c.args.value
    (known_there _ _ c.as_slice-2.ensures.value c.args.k _ c.args.self.now c.self.view_is c.place_in_page.ensures.some (sym c.is_some.ensures ∙ c.if-is_some.true))

pub returns-then-is_some-clause-answer : goal.returns-then-is_some-clause-answer
returns-then-is_some-clause-answer g c =
    ap not (sym (known_there _ _ c.as_slice-2.ensures.value c.args.k _ c.args.self.now c.self.view_is c.place_in_page.ensures.some (sym c.is_some.ensures ∙ c.if-is_some.true)))

pub invariant_of-self-2 : goal.invariant_of-self-2
invariant_of-self-2 g c =
    let within : c.page-place.result < length c.fill.new.upto.items = omega (arith, c.page-place.ensures, c.in_ok-fill.ensures.all) in
    more_linked c.fill.new.upto.items c.self.inside.entries.items (same_linked _ _ c.self.invariant _ c.fill.ensures.same) c.args.k c.args.value
    (none_there _ _ c.as_slice-2.ensures.value c.args.k _ c.place_in_page.ensures.none (sym c.is_some.ensures ∙ c.if-is_some.false))
    c.index.result.now c.page-place.result c.in_ok-upto.upto c.page-place.ensures within
    (c.index.ensures ∙ get_or_default _ _ _ 0 within)
    (omega (arith, c.in_ok-upto.ensures, c.len.ensures, c.self.inside.entries.ok.0)) _ c.in_ok-append.ensures.items

pub returns-clause-added : goal.returns-clause-added
returns-clause-added g c =
    ap (λ es. maps.from_entries (pairs es)) c.in_ok-append.ensures.items
    ∙ more_seen _ _ c.self.invariant c.args.k c.args.value
    (none_there _ _ c.as_slice-2.ensures.value c.args.k _ c.place_in_page.ensures.none (sym c.is_some.ensures ∙ c.if-is_some.false))
    c.index.result.now c.args.self.now c.self.view_is

pub returns-clause-answer : goal.returns-clause-answer
returns-clause-answer g c =
    ap not
    (sym (not_in_row _ c.args.self.now c.self.view_is c.args.k (none_there _ _ c.as_slice-2.ensures.value c.args.k _ c.place_in_page.ensures.none (sym c.is_some.ensures ∙ c.if-is_some.false))))
