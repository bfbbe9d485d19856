use Rattle.std.proofs.Common.{◌≡◌, ◌<◌, None, length, All, Contains, IfSome, refl, sym, ap, ◌∙◌, subst, true}
use Rattle.std.specs.Option.{option_map}
use Rattle.std.proofs.lemmas.List.Sorted.{All-permutation}
use Rattle.std.proofs.lemmas.Result.{err_from_is_err_and}
use Rattle.elf_image.specs.Header.{entry}
use Rattle.elf_image.specs.Code.{is_code}
use Rattle.elf_image.specs.ReadOnly.{span_bytes}
use Rattle.elf_image.proofs.FirstFault.{first-from_symbols}
use Rattle.elf_symbols.specs.declared.seed.Seed.{Seed}
use Rattle.elf_symbols.specs.Seeds.{addresses_of, name_in, LiesIn}
use Rattle.elf_symbols.specs.Inner.Merged.{AreMerged}
use Rattle.elf_symbols.proofs.Tables.{bad-of_image}
use Rattle.elf_symbols.proofs.Names.{found-lies}
use Rattle.elf_symbols.proofs.Answer.{name_in-lies, all-addresses, has-entry, has-some, all-names, all-code}
use Rattle.elf_symbols.proofs.read.seeds.Goals as goal

pub returns-in_err-found-clause-malformed : goal.returns-in_err-found-clause-malformed
returns-in_err-found-clause-malformed c =
    let p = err_from_is_err_and c.from_residual.result c.from_residual.ensures.1 in
    rw (p.1, p.2) (bad-of_image c.args.image.now c.entry.ensures.image c.in_err-found.field-0.0 c.in_err-found.ensures.bad)

pub merged-requires-clause-lie : goal.merged-requires-clause-lie
merged-requires-clause-lie c =
    let bytes = c.args.image.now in
    let Lies : Seed → Type 0 = λ s. IfSome s.name (LiesIn bytes) in
    let each = found-lies bytes c.in_ok-found.found.items c.in_ok-found.ensures.each record { address = c.entry.result; name = None } c.entry.ensures.entry refl in
    subst (All Lies) (sym c.deref.ensures.value)
    (All-permutation Lies c.push.new.self.items c.by_address.result.items c.by_address.ensures.permutation (subst (All Lies) (sym c.in_ok-push.ensures.items) each))

pub returns-clause-accepted : goal.returns-clause-accepted
returns-clause-accepted c = first-from_symbols c.args.image.now c.entry.ensures.image ∙ c.in_ok-found.ensures.good

-- what was merged
are_merged : (c : goal.In_ok-new) → AreMerged c.args.image.now c.by_address.result.items c.in_ok-seeds.seeds.items
are_merged c = subst (λ xs. AreMerged c.args.image.now xs c.in_ok-seeds.seeds.items) c.deref.ensures.value c.in_ok-seeds.ensures

pub returns-clause-addresses : goal.returns-clause-addresses
returns-clause-addresses c =
    ap addresses_of c.in_ok-new.ensures
    ∙ all-addresses c.args.image.now c.in_ok-found.found.items c.in_ok-found.ensures.each _ c.entry.ensures.entry refl c.push.new.self.items c.in_ok-push.ensures.items
    c.by_address.result.items c.by_address.ensures.permutation c.in_ok-seeds.seeds.items (are_merged c)

pub returns-clause-names : goal.returns-clause-names
returns-clause-names c a =
    ap (λ seeds. option_map (span_bytes c.args.image.now) (name_in seeds a)) c.in_ok-new.ensures
    ∙ all-names c.args.image.now c.in_ok-found.found.items c.in_ok-found.ensures.each _ c.entry.ensures.entry refl c.push.new.self.items c.in_ok-push.ensures.items
    c.by_address.result.items c.by_address.ensures.permutation c.in_ok-seeds.seeds.items (are_merged c) a

pub returns-clause-in_file : goal.returns-clause-in_file
returns-clause-in_file c a =
    subst (λ seeds. IfSome (name_in seeds a) (LiesIn c.args.image.now)) (sym c.in_ok-new.ensures)
    (name_in-lies c.args.image.now c.in_ok-seeds.seeds.items a (are_merged c).lie)

pub returns-clause-some : goal.returns-clause-some
returns-clause-some c =
    subst (λ seeds. 0 < length (addresses_of seeds)) (sym c.in_ok-new.ensures)
    (has-some c.args.image.now c.in_ok-found.found.items c.in_ok-found.ensures.each _ c.entry.ensures.entry refl c.push.new.self.items c.in_ok-push.ensures.items
    c.by_address.result.items c.by_address.ensures.permutation c.in_ok-seeds.seeds.items (are_merged c))

pub returns-clause-entry : goal.returns-clause-entry
returns-clause-entry c =
    subst (λ seeds. Contains (addresses_of seeds) (entry c.args.image.now)) (sym c.in_ok-new.ensures)
    (has-entry c.args.image.now c.in_ok-found.found.items c.in_ok-found.ensures.each _ c.entry.ensures.entry refl c.push.new.self.items c.in_ok-push.ensures.items
    c.by_address.result.items c.by_address.ensures.permutation c.in_ok-seeds.seeds.items (are_merged c))

pub returns-clause-code : goal.returns-clause-code
returns-clause-code c =
    subst (λ seeds. All (λ a. is_code c.args.image.now a ≡ true) (addresses_of seeds)) (sym c.in_ok-new.ensures)
    (all-code c.args.image.now c.in_ok-found.found.items c.in_ok-found.ensures.each _ c.entry.ensures.entry refl c.push.new.self.items c.in_ok-push.ensures.items
    c.by_address.result.items c.by_address.ensures.permutation c.in_ok-seeds.seeds.items (are_merged c)
    (ap (is_code c.args.image.now) (sym c.entry.ensures.entry) ∙ c.entry.ensures.code))
