use Rattle.std.proofs.Common.{◌∙◌, ap, sym, subst, eqb, nat_cmp}
use Rattle.std.specs.List.{list_any}
use Rattle.std.specs.List.Sorted.{IsBinarySearchResult, IsNonDecreasing}
use Rattle.elf_symbols.specs.NoReturn.{is_no_return}
use Rattle.elf_symbols.proofs.NoReturnLemmas.{any-searched}
use Rattle.elf_symbols.proofs.no_return.NoReturns.has.Goals as goal

pub returns : goal.returns
returns c =
    let found = subst (λ xs. IsBinarySearchResult (λ y. nat_cmp y c.args.a) xs c.binary_search.result) c.deref.ensures.value c.binary_search.ensures.position in
    c.is_ok.ensures.value
    ∙ any-searched c.self.inside.addresses.items c.args.a c.binary_search.result c.self.invariant.rises found
    ∙ c.self.invariant.same c.args.a ∙ ap (λ bytes. is_no_return bytes c.args.a) c.self.view_is
