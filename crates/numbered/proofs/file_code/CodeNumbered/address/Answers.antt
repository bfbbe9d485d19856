use Rattle.std.proofs.Common.{◌≡◌, true, IsSome, sym, ap, ◌∙◌, subst, arith}
use Rattle.elf_image.specs.Code.{is_code}
use Rattle.chain_index.specs.Numbers.{codes_below, code_count}
use Rattle.chain_index.proofs.Counts.{numbers_are_below}
use Rattle.code_view.specs.Cuts.{cut_of}
use Rattle.code_view.specs.Program.{program_under}
use Rattle.code_view.proofs.Lawful.{code_of}
use Rattle.numbered.proofs.CodeNumbers.{numbered-code, stands}
use Rattle.numbered.proofs.file_code.CodeNumbered.address.Goals as goal

pub address-requires : goal.address-requires
address-requires c =
    let bytes = c.args.self.now.bytes in
    let same = c.index-index.ensures.index in
    let count = c.numbers.ensures ∙ ap code_count same in
    let found = numbered-code bytes c.args.n (omega (arith, c.if-n-numbers.true, count)) in (
      found.0,
      subst (λ b. is_code b found.0 ≡ true) (sym same) found.1,
      found.2 ∙ ap (λ b. codes_below b found.0) (sym same),
    )

pub returns-then-n-numbers : goal.returns-then-n-numbers
returns-then-n-numbers c =
    let bytes = c.args.self.now.bytes in
    let cuts = cut_of c.args.self.now.cuts in
    let same = c.index-index.ensures.index in
    let count = c.numbers.ensures ∙ ap code_count same in
    let found = numbered-code bytes c.args.n (omega (arith, c.if-n-numbers.true, count)) in
    let there : c.address.result ≡ found.0 =
    c.address.ensures found.0 (subst (λ b. is_code b found.0 ≡ true) (sym same) found.1) (found.2 ∙ ap (λ b. codes_below b found.0) (sym same)) in (
      subst (λ a. IsSome (program_under bytes cuts a)) (sym there) (stands bytes cuts found.0 found.1),
      found.2 ∙ ap (codes_below bytes) (sym there),
    )

pub returns-else-n-numbers : goal.returns-else-n-numbers
returns-else-n-numbers c = λ a has is.
    let bytes = c.args.self.now.bytes in
    let count = c.numbers.ensures ∙ ap code_count c.index-index.ensures.index in
    let below = numbers_are_below bytes a c.index-index.ensures.accepted (code_of bytes (cut_of c.args.self.now.cuts) a has) in
    absurd (omega (arith, below, is, count, c.if-n-numbers.false))
