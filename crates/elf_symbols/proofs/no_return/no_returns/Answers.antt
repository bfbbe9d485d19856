use Rattle.std.proofs.Common.{ℕ, List, ◌++◌, ◌∙◌, map, sym, ap, subst, All, IfSome}
use Rattle.std.specs.List.{filter}
use Rattle.std.proofs.lemmas.Result.{err_from_is_err_and}
use Rattle.elf_symbols.specs.declared.seed.Seed.{Seed}
use Rattle.elf_symbols.specs.Seeds.{LiesIn}
use Rattle.elf_symbols.specs.Inner.NoReturn.{has_listed_name}
use Rattle.elf_image.specs.Symbols.{seed_symbols}
use Rattle.elf_symbols.specs.Inner.Symbols.{strings_in}
use Rattle.elf_symbols.proofs.Names.{each-lies}
use Rattle.elf_symbols.proofs.NoReturnLemmas.{any-same}
use Rattle.elf_symbols.proofs.Tables.{bad-of_image}
use Rattle.elf_symbols.proofs.no_return.no_returns.Goals as goal

pub returns-in_err-seeds-clause-malformed : goal.returns-in_err-seeds-clause-malformed
returns-in_err-seeds-clause-malformed c =
    let p = err_from_is_err_and c.from_residual.result c.from_residual.ensures.1 in
    rw (p.1, p.2) (bad-of_image c.args.image.now c.entry.ensures.image c.in_err-seeds.field-0.0 c.in_err-seeds.ensures.bad)

pub named-requires : goal.named-requires
named-requires c =
    let bytes = c.args.image.now in
    subst (All (λ (s : Seed). IfSome s.name (LiesIn bytes))) (sym c.deref.ensures.value)
    (each-lies bytes (strings_in bytes) (seed_symbols bytes) c.in_ok-seeds.seeds.items c.in_ok-seeds.ensures.each)

pub returns-clause-found : goal.returns-clause-found
returns-clause-found c =
    let named : List Seed → List ℕ = λ ss. map (λ (s : Seed). s.address) (filter (has_listed_name c.args.image.now) ss) in
    record {
      rises = c.sorted.ensures.rises;
      same = any-same c.args.image.now c.in_ok-seeds.seeds.items c.in_ok-found.found.items c.extend_from_slice.new.self.items c.sorted.result.items c.in_ok-seeds.ensures.each
          (c.in_ok-found.ensures ∙ ap named c.deref.ensures.value)
          (c.in_ok-extend_from_slice.ensures.items ∙ ap (λ xs. c.in_ok-found.found.items ++ xs) (c.deref-2.ensures.value ∙ c.in_ok-declared.ensures))
          c.sorted.ensures.permutation;
    }
